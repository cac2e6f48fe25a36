-- The tests on words for sets that lie within each other and for sets that meet.
use Rattle.std.proofs.Common.{◌≡◌, ◌↔◌, ℕ, ◌<◌, ◌-◌, ◌^◌, arith, ◌∙◌, inl, inr, eq-eqb, eqb-true}
use Rattle.std.specs.Prelude.{bit_and, nat_eq, not, IsTrue}
use Rattle.std.proofs.lemmas.Bool.{ne_eqb, not_from_false}
use Rattle.std.proofs.lemmas.Bool.Decides.{nat_tests}
use Rattle.std.proofs.lemmas.Nat.{and_le_l}
use Rattle.std.specs.FinSet as set
use Rattle.staat_model.specs.Bits.{set_of_word}
use Rattle.staat_model.specs.declared.set.PartSet.{PartSet}
use Rattle.staat_model.specs.Sets.{Has, IsSubset}
use Rattle.staat_model.proofs.FreeSides.{member_or}
use Rattle.staat_model.proofs.RestrictLemmas.{nonempty_or}
use Rattle.staat_model.proofs.SetBits.{set_of_word-and, set_of_word-without}
use Rattle.staat_model.proofs.SetMembers.{has-difference, has-intersection, none_zero, zero_none}

module _ (a b : ℕ) (s o : PartSet) (sa : set_of_word a ≡ s) (so : set_of_word b ≡ o) (la : a < 2 ^ 32) (lb : b < 2 ^ 32) where
  less : set_of_word (bit_and a (4294967295 - b)) ≡ set.difference s o
  less = set_of_word-without a b lb ∙ (λ i. set.difference (sa i) (so i))

  shared : set_of_word (bit_and a b) ≡ set.intersection s o
  shared = set_of_word-and a b ∙ (λ i. set.intersection (sa i) (so i))

  pub within_iff : IsTrue (nat_eq (bit_and a (4294967295 - b)) 0) ↔ IsSubset s o
  within_iff = (
    λ z q h. elim (member_or o q) [
      | inl has ↦ has
      | inr out ↦ absurd (zero_none _ (set.difference s o) less (eqb-true _ 0 z) q ((has-difference s o q).1 (h, out)))
    ],
    λ within. eq-eqb _ 0 (none_zero _ (set.difference s o) less (omega (arith, and_le_l a (4294967295 - b), la)) (λ q h. let t = (has-difference s o q).0 h in t.1 (within q t.0))),
  )

  pub meets_iff : IsTrue (not (nat_eq (bit_and a b) 0)) ↔ ((q : ℕ) × Has s q × Has o q)
  meets_iff = (
    λ t. elim (nonempty_or (set.intersection s o)) [
      | inl one ↦ (let both = (has-intersection s o one.0).0 one.1 in (one.0, both.0, both.1))
      | inr none ↦ absurd (let z : bit_and a b ≡ 0 = none_zero _ (set.intersection s o) shared (omega (arith, and_le_l a b, la)) none in grind (arith, nat_tests))
    ],
    λ h. not_from_false _ (ne_eqb (bit_and a b) 0 (λ z. zero_none _ (set.intersection s o) shared z h.0 ((has-intersection s o h.0).1 (h.1, h.2)))),
  )
