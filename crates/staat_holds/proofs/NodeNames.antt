-- Names of nodes, and the places that they have among the nodes of a hold.
use Rattle.std.proofs.Common.{◌≡◌, ◌⊎◌, ◌↔◌, ℕ, zero, suc, ◌+◌, ◌<◌, ◌≤◌, ◌^◌, true, false, cond, List, [], ◌∷◌, ◌++◌, length, get_or, inl, inr, ⊎_elim, refl, sym, ap, subst, ◌∙◌, arith, All, Contains}
use Rattle.std.specs.Prelude.{None, Some, ◌||◌, nat_eq, slice_get}
use Rattle.std.specs.FinSet as set
use Rattle.std.specs.List.{list_any, position_or_len, range_with_len}
use Rattle.std.specs.List.Sorted.{IsStrictlySortedBy}
use Rattle.std.specs.Ordering.{nat_cmp}
use Rattle.std.proofs.lemmas.Bool.{cases_eq}
use Rattle.std.proofs.lemmas.Bool.Decides.{nat_tests}
use Rattle.std.proofs.lemmas.List.Elements.{All-weaker}
use Rattle.std.proofs.lemmas.List.Quantifiers.{position-Some}
use Rattle.std.proofs.lemmas.List.Sums.{position_or_len_is}
use Rattle.std.proofs.lemmas.Map.Keys.{below_from_sorted, sorted_tail}
use Rattle.std.proofs.lemmas.Map.Views.{length-le_from_below}
use Rattle.std.proofs.lemmas.Option.{get_or_from_slice_get, slice_get-get_or}
use Rattle.staat_model.specs.declared.set.PartSet.{PartSet}
use Rattle.staat_model.specs.Sets.{Has}
use Rattle.staat_model.proofs.Places.{place_within}
use Rattle.staat_model.proofs.SetMembers.{has-empty, has-insert}
use Rattle.staat_holds.specs.Chains.{IsName, joined_name, own_names, place_of, places_of}
use Rattle.staat_holds.specs.Holds.{IsOfNode}
use Rattle.staat_vec.proofs.Unique.{Contains-nothing, Contains-front}
use Rattle.staat_vec.proofs.ListLaws.{place_in_map, map_at_place, Contains-there}
use Rattle.staat_vec.proofs.Options.{some_injective}

-- ---- whether a name is among some nodes

equal : (n m : ℕ) → n ≡ m → nat_eq n m ≡ true
equal n m e = grind (arith, nat_tests)

unequal : (n m : ℕ) → (n ≡ m → ⊥) → nat_eq n m ≡ false
unequal n m ne = grind (arith, nat_tests)

same_if : (n m : ℕ) → nat_eq n m ≡ true → n ≡ m
same_if n m e = grind (arith, nat_tests)

-- whether the name is one of the nodes, by the test
abbrev pub IsTested : List ℕ → ℕ → Type 0
IsTested nodes n = (Contains nodes n × (list_any (nat_eq n) nodes ≡ true)) ⊎ ((Contains nodes n → ⊥) × (list_any (nat_eq n) nodes ≡ false))

among_more : (m : ℕ) (nodes : List ℕ) (n : ℕ) → (n ≡ m) ⊎ (n ≡ m → ⊥) → IsTested nodes n → IsTested (m ∷ nodes) n
among_more m nodes n (inl e) t = inl (subst (Contains (m ∷ nodes)) (sym e) (Contains-front m nodes), ap (λ b. b || list_any (nat_eq n) nodes) (equal n m e))
among_more m nodes n (inr ne) (inl h) = inl (Contains-there m n nodes h.0, ap (λ b. b || list_any (nat_eq n) nodes) (unequal n m ne) ∙ h.1)
among_more m nodes n (inr ne) (inr h) = inr (none, ap (λ b. b || list_any (nat_eq n) nodes) (unequal n m ne) ∙ h.1)
  where
    none : Contains (m ∷ nodes) n → ⊥
    none (zero, lt, e) = ne (sym e)
    none (suc k, lt, e) = h.0 (k, omega (arith, lt), e)

pub among_or : (nodes : List ℕ) (n : ℕ) → IsTested nodes n
among_or [] n = inr (Contains-nothing n, refl)
among_or (m ∷ nodes) n = among_more m nodes n (cases_eq n m) (among_or nodes n)

pub among_yes : (nodes : List ℕ) (n : ℕ) → list_any (nat_eq n) nodes ≡ true → Contains nodes n
among_yes nodes n h = ⊎_elim {C = Contains nodes n} (λ t. t.0) (λ t. absurd (wrong (sym h ∙ t.1))) (among_or nodes n)
  where
    wrong : true ≡ false → ⊥
    wrong e = cc

pub among_no : (nodes : List ℕ) (n : ℕ) → list_any (nat_eq n) nodes ≡ false → Contains nodes n → ⊥
among_no nodes n h c = ⊎_elim {C = ⊥} (λ t. wrong (sym t.1 ∙ h)) (λ t. t.0 c) (among_or nodes n)
  where
    wrong : true ≡ false → ⊥
    wrong e = cc

pub joined_in : (nodes : List ℕ) (n : ℕ) → Contains nodes n → joined_name nodes n ≡ get_or nodes 0 n
unfolding joined_name
joined_in nodes n c = ⊎_elim {C = joined_name nodes n ≡ get_or nodes 0 n}
    (λ h. ap (λ b. cond b (get_or nodes 0 n) n) h.1) (λ h. absurd (h.0 c)) (among_or nodes n)

pub joined_out : (nodes : List ℕ) (n : ℕ) → (Contains nodes n → ⊥) → joined_name nodes n ≡ n
unfolding joined_name
joined_out nodes n off = ⊎_elim {C = joined_name nodes n ≡ n}
    (λ h. absurd (off h.0)) (λ h. ap (λ b. cond b (get_or nodes 0 n) n) h.1) (among_or nodes n)

-- the name of what some nodes become
pub first_of : (nodes : List ℕ) → 1 ≤ length nodes → (r : ℕ) × Contains nodes r × ((n : ℕ) → get_or nodes 0 n ≡ r)
first_of [] some = absurd (omega (arith, some))
first_of (r ∷ nodes) some = (r, Contains-front r nodes, λ n. refl)

-- ---- the place of a name among ascending nodes

pub place_to : (nodes : List ℕ) (k n : ℕ) → place_of nodes n ≡ Some k → slice_get nodes k ≡ Some n
unfolding place_of
place_to nodes k n e =
    let h = position-Some (nat_eq n) nodes k n e in
    slice_get-get_or nodes k n h.0 ∙ ap Some (sym (same_if n (get_or nodes k n) h.1))

pub below_first : (m : ℕ) (nodes : List ℕ) (k n : ℕ) → IsStrictlySortedBy nat_cmp (m ∷ nodes) → slice_get nodes k ≡ Some n → n ≡ m → ⊥
below_first m nodes k n sorted at e =
    let lt = place_within nodes k n at in
    let less : m < get_or nodes k n = below_from_sorted (m ∷ nodes) 0 (suc k) n sorted (omega arith) (omega (arith, lt)) in
    let is : get_or nodes k n ≡ n = get_or_from_slice_get nodes k n n at in
    omega (arith, less, is, e)

place_at : (nodes : List ℕ) (k n : ℕ) → IsStrictlySortedBy nat_cmp nodes → slice_get nodes k ≡ Some n → position_or_len (nat_eq n) nodes ≡ k
place_at [] k n sorted at = cc
place_at (m ∷ nodes) zero n sorted at = let hit : nat_eq n m ≡ true = equal n m (sym (some_injective m n at)) in grind arith
place_at (m ∷ nodes) (suc k) n sorted at =
    let miss : nat_eq n m ≡ false = unequal n m (below_first m nodes k n sorted at) in
    let rest : position_or_len (nat_eq n) nodes ≡ k = place_at nodes k n (sorted_tail nat_cmp m nodes sorted) at in
    grind arith

pub place_from : (nodes : List ℕ) (k n : ℕ) → IsStrictlySortedBy nat_cmp nodes → slice_get nodes k ≡ Some n → place_of nodes n ≡ Some k
unfolding place_of
place_from nodes k n sorted at =
    let lt : k < length nodes = place_within nodes k n at in
    let e : position_or_len (nat_eq n) nodes ≡ k = place_at nodes k n sorted at in
    grind (arith, nat_tests)

-- none of the first k has the name
abbrev pub IsNotBefore : List ℕ → ℕ → ℕ → Type 0
IsNotBefore nodes n k = (m : ℕ) → m < k → n ≡ get_or nodes m 0 → ⊥

pub place_is : (nodes : List ℕ) (k n : ℕ) → k < length nodes → IsNotBefore nodes n k → n ≡ get_or nodes k 0 → place_of nodes n ≡ Some k
unfolding place_of
place_is nodes k n lt before here =
    let e : position_or_len (nat_eq n) nodes ≡ k = position_or_len_is (nat_eq n) nodes k 0 (omega arith) (λ m h. unequal n (get_or nodes m 0) (before m h)) (λ _. equal n (get_or nodes k 0) here) in
    grind (arith, nat_tests)

pub no_place : (nodes : List ℕ) (k n : ℕ) → length nodes ≤ k → IsNotBefore nodes n k → place_of nodes n ≡ None
unfolding place_of
no_place nodes k n le before =
    let e : position_or_len (nat_eq n) nodes ≡ length nodes = position_or_len_is (nat_eq n) nodes (length nodes) 0 (omega arith) (λ m h. unequal n (get_or nodes m 0) (before m (omega (arith, h, le)))) (λ lt. absurd (omega (arith, lt))) in
    grind (arith, nat_tests)

-- ---- maps

-- the part belongs to the node at place k exactly where it has that node's name
pub of_place : (nodes names : List ℕ) (k n a : ℕ) → IsStrictlySortedBy nat_cmp nodes → slice_get nodes k ≡ Some n → IsOfNode (places_of nodes names) k a ↔ (slice_get names a ≡ Some n)
of_place nodes names k n a sorted at = (
  λ h.
      let (m, named, is) = place_in_map (place_of nodes) names a (Some k) h in
      named ∙ sym (place_to nodes k m is) ∙ at,
  λ h. map_at_place (place_of nodes) names a n h ∙ ap Some (place_from nodes k n sorted at),
)

-- ---- the set of the parts that have a name

abbrev pub parts_below : List ℕ → ℕ → ℕ → PartSet
parts_below names n zero = set.empty
parts_below names n (suc k) = cond (nat_eq (get_or names k (suc n)) n) (set.insert (parts_below names n k) k) (parts_below names n k)

abbrev pub parts_named : List ℕ → ℕ → PartSet
parts_named names n = parts_below names n (length names)

-- p is below k and has the name n
abbrev IsBelowNamed : List ℕ → (n k p : ℕ) → Type 0
IsBelowNamed names n k p = (p < k) × (slice_get names p ≡ Some n)

named_at : (names : List ℕ) (n k : ℕ) → get_or names k (suc n) ≡ n → k < length names → slice_get names k ≡ Some n
named_at names n k e lt = slice_get-get_or names k (suc n) lt ∙ ap Some e

has_below : (names : List ℕ) (n k p : ℕ) → k ≤ length names → Has (parts_below names n k) p ↔ IsBelowNamed names n k p
has_below names n zero p le = (λ h. absurd (has-empty p h), λ h. absurd (omega (arith, h.0)))
has_below names n (suc k) p le = step (has_below names n k p (omega (arith, le))) (cases_eq (get_or names k (suc n)) n)
  where
    step : Has (parts_below names n k) p ↔ IsBelowNamed names n k p → (get_or names k (suc n) ≡ n) ⊎ (get_or names k (suc n) ≡ n → ⊥) → Has (parts_below names n (suc k)) p ↔ IsBelowNamed names n (suc k) p
    step so_far (inl e) =
        let is : parts_below names n (suc k) ≡ set.insert (parts_below names n k) k = ap (λ b. cond b (set.insert (parts_below names n k) k) (parts_below names n k)) (equal (get_or names k (suc n)) n e) in
        let in' = has-insert (parts_below names n k) k p in (
          λ h. ⊎_elim {C = IsBelowNamed names n (suc k) p}
              (λ same. (omega (arith, same), subst (λ q. slice_get names q ≡ Some n) (sym same) (named_at names n k e (omega (arith, le)))))
              (λ g. let b = so_far.0 g in (let lt = b.0 in omega (arith, lt), b.1)) (in'.0 (subst (λ s. Has s p) is h)),
          λ h. subst (λ s. Has s p) (sym is) (in'.1 (⊎_elim {C = (p ≡ k) ⊎ Has (parts_below names n k) p} (λ same. inl same)
              (λ other. inr (so_far.1 (let lt = h.0 in omega (arith, lt, other), h.1))) (cases_eq p k))),
        )
    step so_far (inr ne) =
        let is : parts_below names n (suc k) ≡ parts_below names n k = ap (λ b. cond b (set.insert (parts_below names n k) k) (parts_below names n k)) (unequal (get_or names k (suc n)) n ne) in (
          λ h. let b = so_far.0 (subst (λ s. Has s p) is h) in (let lt = b.0 in omega (arith, lt), b.1),
          λ h. subst (λ s. Has s p) (sym is) (so_far.1 (
            ⊎_elim {C = p < k} (λ same. absurd (ne (get_or_from_slice_get names k n (suc n) (subst (λ q. slice_get names q ≡ Some n) same h.1))))
                (λ other. let lt = h.0 in omega (arith, lt, other)) (cases_eq p k),
            h.1,
          )),
        )

pub has_named : (names : List ℕ) (n p : ℕ) → Has (parts_named names n) p ↔ (slice_get names p ≡ Some n)
has_named names n p =
    let h = has_below names n (length names) p (omega arith) in
    (λ in'. (h.0 in').1, λ named. h.1 (place_within names p n named, named))

-- ---- as many nodes as parts at most

pub few_nodes : (names nodes : List ℕ) → IsStrictlySortedBy nat_cmp nodes → All (IsName names) nodes → length names < 2 ^ 32 → length nodes < 2 ^ 32
few_nodes names nodes sorted all few =
    let below = All-weaker (IsName names) (λ n. n < length names) (λ n named. place_within names n n named) nodes all in
    let le = length-le_from_below (length names) nodes sorted below in
    omega (arith, le, few)

-- ---- one part more

range_more : (a n : ℕ) → range_with_len a n ++ (a + n) ∷ [] ≡ range_with_len a (n + 1)
range_more a zero = let e : a + 0 ≡ a = omega arith in ap (λ m. m ∷ []) e
range_more a (suc n) =
    let rest = range_more (a + 1) n in
    let e : a + suc n ≡ a + 1 + n = omega arith in
    let f : suc (n + 1) ≡ suc n + 1 = omega arith in
    ap (λ m. a ∷ (range_with_len (a + 1) n ++ m ∷ [])) e ∙ ap (λ l. a ∷ l) rest ∙ ap (range_with_len a) f

pub own_more : (n : ℕ) → own_names n ++ n ∷ [] ≡ own_names (n + 1)
own_more n = let e : 0 + n ≡ n = omega arith in ap (λ m. range_with_len 0 n ++ m ∷ []) (sym e) ∙ range_more 0 n
