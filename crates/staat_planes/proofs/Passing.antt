-- How a direction leads past facets, by the first of them and the others.
use Rattle.std.proofs.Common.{◌≡◌, ◌↔◌, ◌∷◌, ◌∙◌, ℤ, pos, ◌<ℤ◌, Bool, FitsSigned, arith, subst, sym, List, All, of_z, to_z}
use Rattle.std.specs.Prelude.{IsTrue, false}
use Rattle.std.specs.Int.{Width}
use Rattle.std.specs.Int.Signed.{lt_z}
use Rattle.std.proofs.lemmas.Bool.{false≢true}
use Rattle.std.proofs.lemmas.Int.{ints, to_z-of_z}
use Rattle.std.proofs.lemmas.List.Elements.{All-cons, All-head, All-rest, All-same}
use Rattle.staat_vec.proofs.Integers.{is_less}

pub not_both : (z : ℤ) → pos 0 <ℤ z → z <ℤ pos 0 → ⊥
not_both z h k = grind (arith, ints, h, k)

-- a product, as the word that has it
module _ (w : Width) (r x : ℤ) (fits : FitsSigned w r) (e : r ≡ x) where
  read : to_z w (of_z w r) ≡ x
  read = to_z-of_z w r fits ∙ e

  pub told_ahead : IsTrue (lt_z (pos 0) (to_z w (of_z w r))) ↔ (pos 0 <ℤ x)
  told_ahead = subst (λ z. IsTrue (lt_z (pos 0) z) ↔ (pos 0 <ℤ x)) (sym read) (is_less (pos 0) x)

  pub told_behind : IsTrue (lt_z (to_z w (of_z w r)) (pos 0)) ↔ (x <ℤ pos 0)
  told_behind = subst (λ z. IsTrue (lt_z z (pos 0)) ↔ (x <ℤ pos 0)) (sym read) (is_less x (pos 0))

pub untold : {X : Type 0} (b : Bool) → b ≡ false → IsTrue b ↔ X → X → ⊥
untold b h told x = false≢true (sym h ∙ told.1 x)

-- a first member and others
module _ {X : Type 0} (P : X → Type 0) (members others : List X) (first : X) (are : members ≡ first ∷ others) where
  pub by_others : (b : Bool) → P first → IsTrue b ↔ All P others → IsTrue b ↔ All P members
  by_others b here told = (
    λ t. All-same P members (first ∷ others) are (All-cons P first others here (told.0 t)),
    λ all. told.1 (All-rest P first others members are all),
  )

  pub by_first : (b : Bool) → (IsTrue b → ⊥) → (P first → ⊥) → IsTrue b ↔ All P members
  by_first b none fails = (
    λ t. absurd (none t),
    λ all. absurd (fails (All-head P first others (All-same P (first ∷ others) members (sym are) all))),
  )
