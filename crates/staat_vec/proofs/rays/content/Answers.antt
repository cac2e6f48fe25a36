use Rattle.std.proofs.Common.{◌≡◌, arith, rules, unsigned_abs, FitsSigned}
use Rattle.std.specs.Int.{IsGcd, w128}
use Rattle.std.proofs.lemmas.Int.{to_z-of_z}
use Rattle.staat_vec.proofs.Divisors.{IsContent-from_gcd, content-only, content-positive, content-le}
use Rattle.staat_vec.specs.declared.vector.TheConstants.{DIRECTION}
use Rattle.staat_vec.specs.Primitives.{content}
use Rattle.staat_vec.proofs.rays.content.Goals as goal

pub returns : goal.returns
returns c =
    let v = c.args.v in
    let x_fits : FitsSigned w128 v.x = search rules in
    let y_fits : FitsSigned w128 v.y = search rules in
    let z_fits : FitsSigned w128 v.z = search rules in
    let x : c.unsigned_abs.result ≡ unsigned_abs v.x = simp to_z-of_z at c.unsigned_abs.ensures.value in
    let y : c.unsigned_abs-2.result ≡ unsigned_abs v.y = simp to_z-of_z at c.unsigned_abs-2.ensures.value in
    let z : c.unsigned_abs-3.result ≡ unsigned_abs v.z = simp to_z-of_z at c.unsigned_abs-3.ensures.value in
    let f = c.gcd.result in
    let g = c.gcd-2.result in
    let first : IsGcd (unsigned_abs v.x) (unsigned_abs v.y) f = rw (← x, ← y) c.gcd.ensures in
    let second : IsGcd f (unsigned_abs v.z) g = rw (← z) c.gcd-2.ensures in
    let value : g ≡ content v = content-only v g (IsContent-from_gcd v f g first second) in
    let some = content-positive v c.requires.some in
    let size = content-le v DIRECTION c.requires.some c.requires.size in
    record { value = value; some = omega arith; size = omega arith }
