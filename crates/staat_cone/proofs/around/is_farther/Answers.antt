use Rattle.std.proofs.Common.{◌≡◌, ℤ, pos, ◌<ℤ◌, FitsSigned, to_z, of_z, arith}
use Rattle.std.specs.Prelude.{◌↔◌, IsTrue}
use Rattle.std.specs.Int.{w64}
use Rattle.std.proofs.lemmas.Int.{ints, to_z-of_z}
use lib.Signed.{lt_z}
use Rattle.staat_vec.specs.Vectors.{dot}
use Rattle.staat_cone.proofs.around.is_farther.Goals as goal

above_reads : (r z : ℤ) → FitsSigned w64 r → r ≡ z → IsTrue (lt_z (pos 0) (to_z w64 (of_z w64 r))) ↔ (pos 0 <ℤ z)
above_reads r z fits e =
    rw (to_z-of_z w64 r fits, e) (λ t. omega (arith, ints), λ h. grind (arith, ints))

pub returns : goal.returns
returns c = above_reads c.along.result (dot c.args.x c.args.normal) (record { sfits = c.along.type_inv }) c.along.ensures
