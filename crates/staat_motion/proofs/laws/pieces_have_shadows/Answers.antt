use Rattle.staat_motion.proofs.Kept.{has_shadows}
use Rattle.staat_motion.proofs.laws.pieces_have_shadows.Goals as goal

pub returns : goal.returns
returns c parts along arc made has = has_shadows parts along arc made has
