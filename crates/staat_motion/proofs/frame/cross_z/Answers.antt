use Rattle.std.proofs.Common.{arith}
use Rattle.staat_vec.proofs.Bounds.{wide}
use Rattle.staat_vec.proofs.VecRing.{same_vector}
use Rattle.staat_motion.proofs.frame.cross_z.Goals as goal

pub returns-clause-value : goal.returns-clause-value
returns-clause-value c = same_vector _ _ (grind (arith, wide)) (grind (arith, wide)) (grind (arith, wide))
