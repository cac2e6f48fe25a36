use Rattle.std.proofs.Common.{arith}
use Rattle.staat_vec.proofs.Bounds.{wide}
use Rattle.staat_vec.proofs.VecRing.{same_vector}
use Rattle.staat_explode.proofs.scene.placed.Goals as goal

pub returns : goal.returns
returns c = same_vector _ _ (omega (arith, wide)) (omega (arith, wide)) (omega (arith, wide))
