-- The members of a set and the bits of its word.
use Rattle.std.proofs.Common.{◌≡◌, ℕ, ◌<◌, ◌^◌, Bool, true, arith, ap, sym, ◌∙◌, subst, inl, inr, ◌⊎◌, true≢false, ⊎_elim, eq-eqb, eqb-true}
use Rattle.std.specs.Prelude.{nat_eq, nat_lt, ◌==◌, ◌&&◌, ◌||◌, not}
use Rattle.std.specs.Int.{bit_at, w32, trailing_zeros}
use Rattle.std.proofs.lemmas.Bool.Decides.{nat_tests}
use Rattle.std.proofs.lemmas.Nat.Bits.{bit_at-zero, bit_at_above, bit_at-trailing_zeros}
use Rattle.std.specs.Ordering.{nat_cmp}
use Rattle.std.specs.Cmp.{nat_cmp_total, unsigned_tied}
use Rattle.std.specs.FinSet as set
use Rattle.staat_model.specs.Bits.{set_of_word, word_of_set}
use Rattle.staat_model.specs.SetFacts.{contains-set_of_word, word_of_set-set_of_word}
use Rattle.staat_model.proofs.SetWords.{same_members}
use Rattle.staat_model.specs.declared.set.PartSet.{PartSet}
use Rattle.staat_model.specs.Sets.{Has, IsNonempty, IsLeastOf, single}
use Rattle.staat_vec.proofs.Truth.{and_zero_is_one, and_split, not_true_clash}
use Rattle.std.proofs.lemmas.Bool.{false_from_ne_true, not_from_false, or_cases, or_left, or_right}
use Rattle.staat_vec.proofs.Naturals.{lt_or_le}

pub has_bit : (bits q : ℕ) → Has (set_of_word bits) q → (q < 32) × (bit_at bits q ≡ 1)
has_bit bits q h =
    let t = and_split (nat_lt q 32) (bit_at bits q == 1) (sym (contains-set_of_word bits q) ∙ h) in
    let a : nat_lt q 32 ≡ true = t.0 in
    let b : (bit_at bits q == 1) ≡ true = t.1 in
    (grind (arith, nat_tests), grind (arith, nat_tests))

pub bit_has_low : (bits q : ℕ) → q < 32 → bit_at bits q ≡ 1 → Has (set_of_word bits) q
bit_has_low bits q low b = contains-set_of_word bits q ∙ grind (arith, nat_tests)

pub bit_has : (bits q : ℕ) → bits < 2 ^ 32 → bit_at bits q ≡ 1 → Has (set_of_word bits) q
bit_has bits q small b = bit_has_low bits q (elim (lt_or_le q 32) [ inl lt ↦ lt | inr le ↦ absurd (let z = bit_at_above bits 32 q small le in omega (arith, z, b)) ]) b

pub has_of : (bits : ℕ) (s : PartSet) → set_of_word bits ≡ s → (q : ℕ) → Has s q → (q < 32) × (bit_at bits q ≡ 1)
has_of bits s e q h = has_bit bits q (subst (λ t. Has t q) (sym e) h)

pub of_bit : (bits : ℕ) (s : PartSet) → set_of_word bits ≡ s → bits < 2 ^ 32 → (q : ℕ) → bit_at bits q ≡ 1 → Has s q
of_bit bits s e small q b = subst (λ t. Has t q) e (bit_has bits q small b)

pub set_of_word-zero : set_of_word 0 ≡ set.empty
set_of_word-zero = set.same_set nat_cmp_total set.nat_cmp-IsAntisymmetric _ _ (λ q.
    contains-set_of_word 0 q ∙ ap (λ t. nat_lt q 32 && (t == 1)) (bit_at-zero q) ∙ and_zero_is_one (nat_lt q 32) ∙ sym (set.contains-empty nat_cmp q))

-- a word is zero exactly where its set has no members
pub zero_none : (n : ℕ) (s : PartSet) → set_of_word n ≡ s → n ≡ 0 → (q : ℕ) → Has s q → ⊥
zero_none n s is z q h = true≢false (sym h ∙ ap (λ t. set.contains t q) (sym is ∙ ap set_of_word z ∙ set_of_word-zero) ∙ set.contains-empty nat_cmp q)

pub none_zero : (n : ℕ) (s : PartSet) → set_of_word n ≡ s → n < 2 ^ 32 → ((q : ℕ) → Has s q → ⊥) → n ≡ 0
none_zero n s is small none =
    let empty : s ≡ set.empty = same_members s set.empty (λ q h. absurd (none q h)) (λ q h. absurd (true≢false (sym h ∙ set.contains-empty nat_cmp q))) in
    sym (word_of_set-set_of_word n small) ∙ ap word_of_set (is ∙ empty ∙ sym set_of_word-zero) ∙ word_of_set-set_of_word 0 (omega arith)

module _ (a : ℕ) (s : PartSet) (sa : set_of_word a ≡ s) (la : a < 2 ^ 32) (some : IsNonempty s) where
  pub positive : 0 < a
  positive = elim (lt_or_le 0 a) [ inl lt ↦ lt | inr le ↦ absurd (zero_none a s sa (omega (arith, le)) some.0 some.1) ]

  pub least_of : IsLeastOf s (trailing_zeros w32 a)
  least_of =
      let (lt, one, none) = bit_at-trailing_zeros w32 a positive la in
      record {
        has = of_bit a s sa la (trailing_zeros w32 a) one;
        least = λ q h. let (small, is) = has_of a s sa q h in elim (lt_or_le q (trailing_zeros w32 a)) [ inl less ↦ absurd (let z = none q less in omega (arith, is, z)) | inr le ↦ le ];
      }

  pub least_small : trailing_zeros w32 a < 32
  least_small = (bit_at-trailing_zeros w32 a positive la).0

pub has-union : (s t : PartSet) (q : ℕ) → (Has (set.union s t) q → Has s q ⊎ Has t q) × (Has s q ⊎ Has t q → Has (set.union s t) q)
has-union s t q = (
  λ h. or_cases (set.contains s q) (set.contains t q) (sym (set.contains-union nat_cmp_total s t q) ∙ h),
  λ h. set.contains-union nat_cmp_total s t q ∙ ⊎_elim (or_left _ _) (or_right _ _) h,
)

pub not_from : (b : Bool) → (b ≡ true → ⊥) → not b ≡ true
not_from b n = not_from_false b (false_from_ne_true b n)

pub has-difference : (s t : PartSet) (q : ℕ) → (Has (set.difference s t) q → Has s q × (Has t q → ⊥)) × (Has s q × (Has t q → ⊥) → Has (set.difference s t) q)
has-difference s t q =
    let e = set.contains-difference nat_cmp_total s t q in (
      λ h. let both = and_split (set.contains s q) (not (set.contains t q)) (sym e ∙ h) in (both.0, not_true_clash (set.contains t q) both.1),
      λ h. e ∙ (λ i. h.0 i && not_from (set.contains t q) h.1 i),
    )

pub has-intersection : (s t : PartSet) (q : ℕ) → (Has (set.intersection s t) q → Has s q × Has t q) × (Has s q × Has t q → Has (set.intersection s t) q)
has-intersection s t q = (
  λ h. and_split (set.contains s q) (set.contains t q) (sym (set.contains-intersection nat_cmp_total s t q) ∙ h),
  λ h. set.contains-intersection nat_cmp_total s t q ∙ (λ i. h.0 i && h.1 i),
)

pub has-insert : (s : PartSet) (p q : ℕ) → (Has (set.insert s p) q → (q ≡ p) ⊎ Has s q) × ((q ≡ p) ⊎ Has s q → Has (set.insert s p) q)
has-insert s p q =
    let e : set.contains (set.insert s p) q ≡ (nat_eq q p || set.contains s q) = set.contains-insert nat_cmp_total s p q ∙ ap (λ t. t || set.contains s q) (unsigned_tied q p) in (
      λ h. ⊎_elim (λ is. inl (eqb-true q p is)) (λ old. inr old) (or_cases (nat_eq q p) (set.contains s q) (sym e ∙ h)),
      λ h. e ∙ ⊎_elim (λ is. or_left _ _ (eq-eqb q p is)) (or_right _ _) h,
    )

pub has-empty : (q : ℕ) → Has set.empty q → ⊥
has-empty q h = true≢false (sym h ∙ set.contains-empty nat_cmp q)

pub has-single : (p q : ℕ) → (Has (single p) q → q ≡ p) × (q ≡ p → Has (single p) q)
has-single p q = (λ h. ⊎_elim (λ e. e) (λ none. absurd (has-empty q none)) ((has-insert set.empty p q).0 h), λ e. (has-insert set.empty p q).1 (inl e))
