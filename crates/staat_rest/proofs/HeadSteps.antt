-- The names of the nodes, one after the other.
use Rattle.std.proofs.Common.{◌≡◌, ◌⊎◌, ℕ, ◌+◌, ◌<◌, ◌≤◌, List, [], ◌∷◌, ◌++◌, length, get_or, ⊎_elim, sym, ap, subst, ◌∙◌, arith, Contains}
use Rattle.std.specs.Prelude.{Some, slice_get}
use Rattle.std.specs.Cmp.{nat_cmp_is}
use Rattle.std.specs.List.Sorted.{IsStrictlySortedBy}
use Rattle.std.specs.Ordering.{nat_cmp}
use Rattle.std.specs.declared.cmp.Ordering.TheVariants.{Less}
use Rattle.std.proofs.lemmas.Bool.{cases_eq}
use Rattle.std.proofs.lemmas.List.Elements.{Contains-append_left, Contains-push, Contains-push_cases}
use Rattle.std.proofs.lemmas.Option.{get_or_from_slice_get, slice_get-get_or}
use Rattle.staat_vec.specs.Lists.{Lists}
use Rattle.staat_model.proofs.Places.{place_within}
use Rattle.staat_holds.specs.Chains.{IsName}
use Rattle.staat_vec.proofs.Comparisons.{sorted_push_less}

-- one of the names below k
abbrev pub IsNameBelow : List ℕ → ℕ → ℕ → Type 0
IsNameBelow names k p = (p < k) × IsName names p

pub heads_none : (names : List ℕ) → Lists nat_cmp (IsNameBelow names 0) []
unfolding IsStrictlySortedBy
heads_none names = record { ascending = tt; each = λ p (k, lt, e). absurd (omega (arith, lt)); all = λ p h. absurd (let lt = h.0 in omega (arith, lt)) }

pub heads_more : (names : List ℕ) (k d : ℕ) (s : List ℕ) → k < length names → get_or names k d ≡ k → Lists nat_cmp (IsNameBelow names k) s → Lists nat_cmp (IsNameBelow names (k + 1)) (s ++ k ∷ [])
heads_more names k d s lt named is = record {
  ascending = sorted_push_less s k is.ascending (λ y c. let h = is.each y c in sym (nat_cmp_is y k Less h.0));
  each = λ p h. ⊎_elim {C = IsNameBelow names (k + 1) p}
      (λ old. let b = is.each p old in (let less = b.0 in omega (arith, less), b.1))
      (λ new. (omega (arith, new), subst (IsName names) new (slice_get-get_or names k d lt ∙ ap Some named))) (Contains-push_cases s k p h);
  all = λ p h. ⊎_elim {C = Contains (s ++ k ∷ []) p}
      (λ e. subst (Contains (s ++ k ∷ [])) (sym e) (Contains-push s k))
      (λ other. Contains-append_left s (k ∷ []) p (is.all p (let less = h.0 in omega (arith, less, other), h.1))) (cases_eq p k);
}

pub heads_same : (names : List ℕ) (k d : ℕ) (s : List ℕ) → (get_or names k d ≡ k → ⊥) → Lists nat_cmp (IsNameBelow names k) s → Lists nat_cmp (IsNameBelow names (k + 1)) s
heads_same names k d s off is = record {
  ascending = is.ascending;
  each = λ p c. let b = is.each p c in (let less = b.0 in omega (arith, less), b.1);
  all = λ p h. ⊎_elim {C = Contains s p}
      (λ e. absurd (off (get_or_from_slice_get names k k d (subst (IsName names) e h.1))))
      (λ other. is.all p (let less = h.0 in omega (arith, less, other), h.1)) (cases_eq p k);
}

pub heads_end : (names : List ℕ) (k : ℕ) (s : List ℕ) → length names ≤ k → Lists nat_cmp (IsNameBelow names k) s → Lists nat_cmp (IsName names) s
heads_end names k s le is = record {
  ascending = is.ascending;
  each = λ p c. (is.each p c).1;
  all = λ p h. is.all p (let lt = place_within names p p h in omega (arith, lt, le), h);
}
