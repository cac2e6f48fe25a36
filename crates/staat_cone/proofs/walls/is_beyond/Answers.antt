use Rattle.staat_cone.proofs.WallLemmas.{beyond_or_not}
use Rattle.staat_cone.proofs.walls.is_beyond.Goals as goal

pub returns : goal.returns
returns c = beyond_or_not c.args.p.now c.args.q.now c.args.n c.violator.result c.is_none.result c.is_none.ensures c.violator.ensures.some c.violator.ensures.none
