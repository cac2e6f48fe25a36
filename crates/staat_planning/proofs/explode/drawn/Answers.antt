use Rattle.std.proofs.Common.{length}
use Rattle.staat_planning.proofs.ExplodeLemmas.{faces_counted, points_counted}
use Rattle.staat_planning.proofs.explode.drawn.Goals as goal

pub scene_text-requires-clause-points : goal.scene_text-requires-clause-points
scene_text-requires-clause-points c = points_counted (length c.args.shifts.now) c.args.solids.now c.requires.small

pub scene_text-requires-clause-faces : goal.scene_text-requires-clause-faces
scene_text-requires-clause-faces c = faces_counted (length c.args.shifts.now) c.args.solids.now c.requires.small
