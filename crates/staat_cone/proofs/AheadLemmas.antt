-- Whether a product is positive or not negative, by the word that has it.
use Rattle.std.proofs.Common.{◌≡◌, ℤ, pos, ◌<ℤ◌, ◌≤ℤ◌, FitsSigned, arith, of_z, to_z}
use Rattle.std.specs.Prelude.{false, true}
use Rattle.std.specs.Int.{Width}
use Rattle.std.specs.Int.Signed.{le_z, lt_z}
use Rattle.std.proofs.lemmas.Int.{ints, to_z-of_z}

module _ (w : Width) (r x : ℤ) (fits : FitsSigned w r) (e : r ≡ x) where
  pub is_ahead : le_z (to_z w (of_z w r)) (pos 0) ≡ false → pos 0 <ℤ x
  is_ahead h = let k = rw (to_z-of_z w r fits, e) at h in grind (arith, ints, k)

  pub not_ahead : le_z (to_z w (of_z w r)) (pos 0) ≡ true → pos 0 <ℤ x → ⊥
  not_ahead h up = let k = rw (to_z-of_z w r fits, e) at h in grind (arith, ints, k, up)

  pub is_level : lt_z (to_z w (of_z w r)) (pos 0) ≡ false → pos 0 ≤ℤ x
  is_level h = let k = rw (to_z-of_z w r fits, e) at h in grind (arith, ints, k)

  pub not_behind : lt_z (to_z w (of_z w r)) (pos 0) ≡ true → pos 0 ≤ℤ x → ⊥
  not_behind h up = let k = rw (to_z-of_z w r fits, e) at h in grind (arith, ints, k, up)
