-- The bits of rows.
use Rattle.std.proofs.Common.{◌≡◌, ◌≢◌, ◌⊎◌, ℕ, ◌+◌, ◌<◌, ◌^◌, List, arith, ap, sym, ◌∙◌, inl, inr, ⊎_elim, length, get_or, get_or-set_other, get_or-set_same}
use Rattle.std.specs.Prelude.{◌↔◌, slice_index, slice_set, replicate}
use Rattle.std.specs.Int.{bit_at}
use Rattle.std.proofs.lemmas.Nat.Bits.{bit_at_above, bit_at-zero}
use Rattle.staat_graph.specs.Graphs.{HasArc}
use Rattle.staat_vec.proofs.Naturals.{lt_or_le, same_or}
use Rattle.staat_vec.proofs.ListLaws.{slice_index-zeros}

-- a word of 32 bits has no bit from 32 on
pub small_bit : (n q : ℕ) → n < 2 ^ 32 → bit_at n q ≡ 1 → q < 32
small_bit n q fits one = ⊎_elim (λ lt. lt) (λ le. absurd (let z : bit_at n q ≡ 0 = bit_at_above n 32 q fits le in omega (arith, one, z))) (lt_or_le q 32)

-- an arc stands or does not
pub arc_or : (rows : List ℕ) (a b : ℕ) → HasArc rows a b ⊎ (HasArc rows a b → ⊥)
arc_or rows a b = same_or (bit_at (slice_index rows a) b) 1

-- what a row that is written changes
pub row_set : (rows : List ℕ) (a x n : ℕ) (P : ℕ → ℕ → Type 0) → a < length rows → ((q : ℕ) → (bit_at n q ≡ 1) ↔ P a q) → ((q : ℕ) → x ≢ a → HasArc rows x q ↔ P x q) → (q : ℕ) → HasArc (slice_set rows a n) x q ↔ P x q
row_set rows a x n P lt own other q = ⊎_elim {C = HasArc (slice_set rows a n) x q ↔ P x q} same apart (same_or x a)
  where
    same : x ≡ a → HasArc (slice_set rows a n) x q ↔ P x q
    same e =
        let is : slice_index (slice_set rows a n) x ≡ n = ap (slice_index (slice_set rows a n)) e ∙ get_or-set_same rows a n 0 lt in (
          λ h. Rattle.std.proofs.Common.subst (λ y. P y q) (sym e) ((own q).0 (sym (ap (λ r. bit_at r q) is) ∙ h)),
          λ p. ap (λ r. bit_at r q) is ∙ (own q).1 (Rattle.std.proofs.Common.subst (λ y. P y q) e p),
        )

    apart : (x ≡ a → ⊥) → HasArc (slice_set rows a n) x q ↔ P x q
    apart ne =
        let is : slice_index (slice_set rows a n) x ≡ slice_index rows x = get_or-set_other rows a x n 0 ne in (
          λ h. (other q ne).0 (sym (ap (λ r. bit_at r q) is) ∙ h),
          λ p. ap (λ r. bit_at r q) is ∙ (other q ne).1 p,
        )

pub empty_graph : (a b : ℕ) → HasArc (replicate 32 0) a b → ⊥
empty_graph a b h = let e = ap (λ r. bit_at r b) (slice_index-zeros 32 a) ∙ bit_at-zero b in absurd (omega (arith, h, e))
