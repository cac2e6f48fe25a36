-- The list of the parts that a hold joins.
use Rattle.std.proofs.Common.{◌≡◌, ℕ, ◌+◌, ◌<◌, ◌≤◌, List, [], ◌∷◌, ◌++◌, length, get_or, ⊎_elim, refl, sym, ap, subst, ◌∙◌, arith, Contains}
use Rattle.std.specs.Prelude.{Some, slice_get}
use Rattle.std.specs.Cmp.{nat_cmp_is}
use Rattle.std.specs.List.Sorted.{IsStrictlySortedBy}
use Rattle.std.specs.Ordering.{nat_cmp}
use Rattle.std.specs.declared.cmp.Ordering.TheVariants.{Less}
use Rattle.std.proofs.lemmas.Bool.{cases_eq}
use Rattle.std.proofs.lemmas.List.Elements.{Contains-append_left, Contains-push, Contains-push_cases}
use Rattle.std.proofs.lemmas.Option.{get_or_from_slice_get, slice_get-get_or}
use Rattle.staat_vec.specs.Lists.{Lists}
use Rattle.staat_model.specs.declared.assembly.Part.{Part}
use Rattle.staat_model.proofs.Places.{place_within}
use Rattle.staat_holds.specs.declared.hold.Hold.{Hold}
use Rattle.staat_holds.specs.Chains.{AllKeep, IsJoinedAt, IsOfOne, names_before}
use Rattle.staat_vec.proofs.Comparisons.{sorted_push_less}
use Rattle.staat_vec.proofs.Options.{some_injective}
use Rattle.staat_vec.proofs.ListLaws.{place_is}

-- ---- one number more of an ascending list

-- ---- the parts that have the name of one of the nodes

module _ (names nodes : List ℕ) where
  -- one of the first k parts that have
  abbrev pub IsOfOneBelow : ℕ → ℕ → Type 0
  IsOfOneBelow k p = (p < k) × IsOfOne names nodes p

  pub among_begin : Lists nat_cmp (IsOfOneBelow 0) []
  unfolding IsStrictlySortedBy
  among_begin = record { ascending = tt; each = λ p (k, lt, e). absurd (omega (arith, lt)); all = λ p h. absurd (let lt = h.0 in omega (arith, lt)) }

  pub among_more : (k d : ℕ) (s : List ℕ) → k < length names → Contains nodes (get_or names k d) → Lists nat_cmp (IsOfOneBelow k) s → Lists nat_cmp (IsOfOneBelow (k + 1)) (s ++ k ∷ [])
  among_more k d s lt listed is = record {
    ascending = sorted_push_less s k is.ascending (λ y c. let h = is.each y c in sym (nat_cmp_is y k Less h.0));
    each = λ p h. ⊎_elim {C = IsOfOneBelow (k + 1) p}
        (λ old. let b = is.each p old in (let less = b.0 in omega (arith, less), b.1))
        (λ new. (omega (arith, new), subst (IsOfOne names nodes) new own)) (Contains-push_cases s k p h);
    all = λ p h. ⊎_elim {C = Contains (s ++ k ∷ []) p}
        (λ e. subst (Contains (s ++ k ∷ [])) (sym e) (Contains-push s k))
        (λ other. Contains-append_left s (k ∷ []) p (is.all p (let less = h.0 in omega (arith, less, other), h.1))) (cases_eq p k);
  }
    where
      own : IsOfOne names nodes k
      own = record { name = get_or names k d; named = slice_get-get_or names k d lt; listed = listed }

  pub among_same : (k d : ℕ) (s : List ℕ) → k < length names → (Contains nodes (get_or names k d) → ⊥) → Lists nat_cmp (IsOfOneBelow k) s → Lists nat_cmp (IsOfOneBelow (k + 1)) s
  among_same k d s lt off is = record {
    ascending = is.ascending;
    each = λ p c. let b = is.each p c in (let less = b.0 in omega (arith, less), b.1);
    all = λ p h. ⊎_elim {C = Contains s p}
        (λ e. absurd (off (subst (Contains nodes) (sym (get_or_from_slice_get names k h.1.name d (subst (λ q. slice_get names q ≡ Some h.1.name) e h.1.named))) h.1.listed)))
        (λ other. is.all p (let less = h.0 in omega (arith, less, other), h.1)) (cases_eq p k);
  }

  pub among_end : (k : ℕ) (s : List ℕ) → length names ≤ k → Lists nat_cmp (IsOfOneBelow k) s → Lists nat_cmp (IsOfOne names nodes) s
  among_end k s le is = record {
    ascending = is.ascending;
    each = λ p c. (is.each p c).1;
    all = λ p h. is.all p (let lt = place_within names p h.name h.named in omega (arith, lt, le), h);
  }

-- ---- the parts that a hold joins

pub joined_at : (parts : List Part) (holds : List Hold) (k : ℕ) (hold : Hold) (names now nodes members : List ℕ) → now ≡ names → names ≡ names_before parts holds k → nodes ≡ hold.nodes → k < length holds → hold ≡ get_or holds k hold
    → Lists nat_cmp (IsOfOne now nodes) members → Lists nat_cmp (IsJoinedAt parts holds (k + 1)) members
joined_at parts holds k hold names now nodes members same is of_hold lt at lists =
    let l : Lists nat_cmp (IsOfOne (names_before parts holds k) hold.nodes) members = subst (λ ns. Lists nat_cmp (IsOfOne ns hold.nodes) members) (same ∙ is) (subst (λ ms. Lists nat_cmp (IsOfOne now ms) members) of_hold lists) in record {
      ascending = l.ascending;
      each = λ p c. record { k = k; last = refl; hold = hold; at = place_is holds k hold lt at; joined = l.each p c };
      all = λ p j. l.all p (from p j);
    }
  where
    from : (p : ℕ) → IsJoinedAt parts holds (k + 1) p → IsOfOne (names_before parts holds k) hold.nodes p
    from p j =
        let e : j.k ≡ k = let l = j.last in omega (arith, l) in
        let same_hold : j.hold ≡ hold = some_injective j.hold hold (sym (subst (λ m. slice_get holds m ≡ Some j.hold) e j.at) ∙ place_is holds k hold lt at) in
        subst (λ (h : Hold). IsOfOne (names_before parts holds k) h.nodes p) same_hold (subst (λ m. IsOfOne (names_before parts holds m) j.hold.nodes p) e j.joined)

pub none_joined : (parts : List Part) (holds : List Hold) → Lists nat_cmp (IsJoinedAt parts holds 0) []
unfolding IsStrictlySortedBy
none_joined parts holds = record { ascending = tt; each = λ p (k, lt, e). absurd (omega (arith, lt)); all = λ p j. absurd (let l = j.last in omega (arith, l)) }

pub joined_end : (parts : List Part) (holds : List Hold) (k : ℕ) (members : List ℕ) → k ≤ length holds → length holds ≤ k → Lists nat_cmp (IsJoinedAt parts holds k) members → Lists nat_cmp (IsJoinedAt parts holds (length holds)) members
joined_end parts holds k members le ge lists = let e : k ≡ length holds = omega (arith, le, ge) in subst (λ m. Lists nat_cmp (IsJoinedAt parts holds m) members) e lists

-- it has a node
pub some_node : (parts : List Part) (holds : List Hold) (k : ℕ) (hold : Hold) (nodes : List ℕ) → nodes ≡ hold.nodes → k < length holds → hold ≡ get_or holds k hold → AllKeep parts holds → 1 ≤ length nodes
some_node parts holds k hold nodes of_hold lt at keep =
    let two = (keep k hold lt (place_is holds k hold lt at)).two in
    let e = ap length of_hold in
    omega (arith, two, e)
