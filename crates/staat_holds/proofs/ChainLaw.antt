-- What holds one after another join is stuck.
use Rattle.std.proofs.Common.{◌≡◌, ◌↔◌, ℕ, zero, suc, ◌-◌, ◌<◌, ◌≤◌, List, [], ◌∷◌, length, get_or, map, inl, inr, ⊎_elim, refl, sym, ap, subst, ◌∙◌, arith, All, Contains}
use Rattle.std.specs.Prelude.{Some, slice_get}
use Rattle.std.specs.List.Sorted.{IsStrictlySortedBy}
use Rattle.std.specs.Ordering.{nat_cmp}
use Rattle.std.proofs.lemmas.List.Elements.{All-contains}
use Rattle.std.proofs.lemmas.List.FromFn.{get_or-range_with_len, length-range_with_len}
use Rattle.std.proofs.lemmas.Map.Keys.{sorted_tail}
use Rattle.std.proofs.lemmas.Option.{get_or_from_slice_get}
use Rattle.staat_model.specs.declared.assembly.Part.{Part}
use Rattle.staat_model.specs.declared.set.PartSet.{PartSet}
use Rattle.staat_model.specs.Assemblies.{IsPart}
use Rattle.staat_model.specs.Groups.{AreNodes, IsNode}
use Rattle.staat_model.specs.Plans.{IsStuck}
use Rattle.staat_model.specs.SetLists.{AreAllApart, union_of}
use Rattle.staat_model.specs.Sets.{AreApart, Has, single}
use Rattle.staat_model.proofs.GroupLemmas.{within_union}
use Rattle.staat_model.proofs.Places.{place_within, some_at}
use Rattle.staat_model.proofs.SetMembers.{has-single}
use Rattle.staat_model.proofs.SetWords.{same_members}
use Rattle.staat_holds.specs.declared.hold.Hold.{Hold}
use Rattle.staat_holds.specs.Chains.{AllKeep, IsJoinedLast, IsName, IsOfOne, KeepsHoldRules, joined_name, names_before, own_names, places_of}
use Rattle.staat_holds.specs.Holds.{AreNodeSets}
use Rattle.staat_holds.proofs.ChainSteps.{after_more}
use Rattle.staat_holds.proofs.HoldLaw.{held_stick, union_has}
use Rattle.staat_holds.proofs.NodeNames.{among_or, below_first, first_of, has_named, joined_in, joined_out, of_place, parts_named}
use Rattle.staat_vec.proofs.Unique.{from_place}
use Rattle.staat_vec.proofs.ListLaws.{place_of, map_at_place, place_in_map}
use Rattle.staat_vec.proofs.Options.{some_injective}

-- w has exactly the parts of the name
abbrev pub IsSetNamed : List ℕ → ℕ → PartSet → Type 0
IsSetNamed names n w = (p : ℕ) → Has w p ↔ (slice_get names p ≡ Some n)

-- the parts of each name are a node
abbrev pub AreNamesOfNodes : List Part → List ℕ → Type 0
AreNamesOfNodes parts names = (n : ℕ) (w : PartSet) → IsName names n → IsSetNamed names n w → IsNode parts w

-- ---- at first

pub own_is : (count p n : ℕ) → slice_get (own_names count) p ≡ Some n → n ≡ p
own_is count p n at =
    let lt = place_within (own_names count) p n at in
    let long = length-range_with_len 0 count in
    let is = get_or_from_slice_get (own_names count) p n 0 at in
    let own = get_or-range_with_len 0 count p 0 (omega (arith, lt, long)) in
    omega (arith, is, own)

pub own_nodes : (parts : List Part) (count : ℕ) → AreNamesOfNodes parts (own_names count)
own_nodes parts count n w named is = inl (
  n,
  same_members w (single n)
      (λ p h. (has-single n p).1 (sym (own_is count p n ((is p).0 h))))
      (λ p h. (is p).1 (subst (λ q. slice_get (own_names count) q ≡ Some n) (sym ((has-single n p).0 h)) named)),
)

-- ---- the nodes of a hold as sets

abbrev sets_of : List ℕ → List ℕ → List PartSet
sets_of names nodes = map (parts_named names) nodes

are_sets : (names nodes : List ℕ) → IsStrictlySortedBy nat_cmp nodes → AreNodeSets (places_of nodes names) (length nodes) (sets_of names nodes)
are_sets names nodes sorted = record {
  number = same_length nodes;
  members = λ k a s at.
      let (n, at_n, is) = place_in_map (parts_named names) nodes k s at in
      let named = has_named names n a in
      let placed = of_place nodes names k n a sorted at_n in (
        λ h. placed.1 (named.0 (subst (λ t. Has t a) (sym is) h)),
        λ h. subst (λ t. Has t a) is (named.1 (placed.0 h)),
      );
}
  where
    same_length : (ns : List ℕ) → length (sets_of names ns) ≡ length ns
    same_length [] = refl
    same_length (n ∷ ns) = ap suc (same_length ns)

from_sets : (names nodes : List ℕ) (s : PartSet) → Contains (sets_of names nodes) s → (n : ℕ) × Contains nodes n × (parts_named names n ≡ s)
from_sets names nodes s c =
    let (k, at) = place_of (sets_of names nodes) s c in
    let (n, at_n, is) = place_in_map (parts_named names) nodes k s at in
    (n, from_place nodes k n at_n, is)

sets_apart : (names nodes : List ℕ) → IsStrictlySortedBy nat_cmp nodes → AreAllApart (sets_of names nodes)
sets_apart names [] sorted = tt
sets_apart names (m ∷ nodes) sorted = (first, sets_apart names nodes (sorted_tail nat_cmp m nodes sorted))
  where
    first : (t : PartSet) → Contains (sets_of names nodes) t → AreApart (parts_named names m) t
    first t c p in_m in_t =
        let (n, listed, is) = from_sets names nodes t c in
        let (k, at) = place_of nodes n listed in
        let of_m = (has_named names m p).0 in_m in
        let of_n = (has_named names n p).0 (subst (λ s. Has s p) (sym is) in_t) in
        below_first m nodes k n sorted at (some_injective n m (sym of_n ∙ of_m))

are_nodes : (parts : List Part) (names nodes : List ℕ) → AreNamesOfNodes parts names → IsStrictlySortedBy nat_cmp nodes → 2 ≤ length nodes → All (IsName names) nodes → AreNodes parts (sets_of names nodes)
are_nodes parts names nodes of_names sorted two all =
    let sets = are_sets names nodes sorted in record {
      two = let e = sets.number in omega (arith, e, two);
      apart = sets_apart names nodes sorted;
      each = λ s c.
          let (n, listed, is) = from_sets names nodes s c in
          subst (IsNode parts) is (of_names n (parts_named names n) (All-contains (IsName names) nodes n all listed) (λ p. has_named names n p));
    }

-- ---- what they are together

in_union : (names nodes : List ℕ) (p : ℕ) → Has (union_of (sets_of names nodes)) p ↔ IsOfOne names nodes p
in_union names nodes p = (
  λ h.
      let (k, (s, at, in_s)) = union_has (sets_of names nodes) p h in
      let (n, at_n, is) = place_in_map (parts_named names) nodes k s at in
      record { name = n; named = (has_named names n p).0 (subst (λ t. Has t p) (sym is) in_s); listed = from_place nodes k n at_n },
  λ o.
      let (k, at) = place_of nodes o.name o.listed in
      let s = parts_named names o.name in
      let c = from_place (sets_of names nodes) k s (map_at_place (parts_named names) nodes k o.name at) in
      within_union (sets_of names nodes) s c p ((has_named names o.name p).1 o.named),
)

module _ (parts : List Part) (each : All IsPart parts) (names : List ℕ) (hold : Hold) (sorted : IsStrictlySortedBy nat_cmp hold.nodes) (keeps : KeepsHoldRules parts names hold) (of_names : AreNamesOfNodes parts names) where
  abbrev ns : List ℕ
  ns = hold.nodes

  pub union_stuck : (w : PartSet) → ((p : ℕ) → Has w p ↔ IsOfOne names ns p) → IsStuck parts w
  union_stuck w is =
      let stuck = held_stick parts (places_of ns names) (length ns) hold.pairs (sets_of names ns) keeps.pairs (are_sets names ns sorted) each keeps.joins
      (are_nodes parts names ns of_names sorted keeps.two keeps.nodes) in
      let same : union_of (sets_of names ns) ≡ w = same_members (union_of (sets_of names ns)) w (λ p h. (is p).1 ((in_union names ns p).0 h)) (λ p h. (in_union names ns p).1 ((is p).0 h)) in
      subst (IsStuck parts) same stuck

  some : 1 ≤ length ns
  some = let two = keeps.two in omega (arith, two)

  -- the names once its nodes are one
  abbrev next : List ℕ
  next = map (joined_name ns) names

  joined_node : (n m : ℕ) (w : PartSet) → slice_get names n ≡ Some m → Contains ns m → joined_name ns m ≡ n → IsSetNamed next n w → IsNode parts w
  joined_node n m w at listed is of_w = inr (union_stuck w (λ p. (λ h. to p ((of_w p).0 h), λ o. (of_w p).1 (from p o))))
    where
      r : ℕ
      r = (first_of ns some).0

      first : (q : ℕ) → get_or ns 0 q ≡ r
      first = (first_of ns some).2

      n_is : n ≡ r
      n_is = sym is ∙ joined_in ns m listed ∙ first m

      to : (p : ℕ) → slice_get next p ≡ Some n → IsOfOne names ns p
      to p h =
          let (q, named, e) = place_in_map (joined_name ns) names p n h in
          ⊎_elim {C = IsOfOne names ns p} (λ t. record { name = q; named = named; listed = t.0 })
          (λ t. absurd (t.0 (subst (Contains ns) (sym n_is ∙ sym e ∙ joined_out ns q t.0) (first_of ns some).1))) (among_or ns q)

      from : (p : ℕ) → IsOfOne names ns p → slice_get next p ≡ Some n
      from p o = map_at_place (joined_name ns) names p o.name o.named ∙ ap Some (joined_in ns o.name o.listed ∙ first o.name ∙ sym n_is)

  other_node : (n m : ℕ) (w : PartSet) → slice_get names n ≡ Some m → (Contains ns m → ⊥) → joined_name ns m ≡ n → IsSetNamed next n w → IsNode parts w
  other_node n m w at off is of_w = of_names n w (at ∙ ap Some m_is) (λ p. (λ h. to p ((of_w p).0 h), λ h. (of_w p).1 (from p h)))
    where
      m_is : m ≡ n
      m_is = sym (joined_out ns m off) ∙ is

      off_n : Contains ns n → ⊥
      off_n c = off (subst (Contains ns) (sym m_is) c)

      to : (p : ℕ) → slice_get next p ≡ Some n → slice_get names p ≡ Some n
      to p h =
          let (q, named, e) = place_in_map (joined_name ns) names p n h in
          ⊎_elim {C = slice_get names p ≡ Some n}
          (λ t. let f = first_of ns some in absurd (off_n (subst (Contains ns) (sym (f.2 q) ∙ sym (joined_in ns q t.0) ∙ e) f.1)))
          (λ t. named ∙ ap Some (sym (joined_out ns q t.0) ∙ e)) (among_or ns q)

      from : (p : ℕ) → slice_get names p ≡ Some n → slice_get next p ≡ Some n
      from p h = map_at_place (joined_name ns) names p n h ∙ ap Some (joined_out ns n off_n)

  pub next_nodes : AreNamesOfNodes parts next
  next_nodes n w named of_w =
      let (m, at, is) = place_in_map (joined_name ns) names n n named in
      ⊎_elim {C = IsNode parts w} (λ t. joined_node n m w at t.0 is of_w) (λ t. other_node n m w at t.0 is of_w) (among_or ns m)

-- ---- all holds

module _ (parts : List Part) (holds : List Hold) (each : All IsPart parts) (sorted : All (λ (hold : Hold). IsStrictlySortedBy nat_cmp hold.nodes) holds) (keep : AllKeep parts holds) where
  sorted_at : (k : ℕ) (hold : Hold) → slice_get holds k ≡ Some hold → IsStrictlySortedBy nat_cmp hold.nodes
  sorted_at k hold at = All-contains (λ (h : Hold). IsStrictlySortedBy nat_cmp h.nodes) holds hold sorted (from_place holds k hold at)

  nodes_before : (k : ℕ) → k ≤ length holds → AreNamesOfNodes parts (names_before parts holds k)
  nodes_before zero le = own_nodes parts (length parts)
  nodes_before (suc k) le =
      let (hold, at) = some_at holds k (omega (arith, le)) in
      let lt : k < length holds = omega (arith, le) in
      let next = next_nodes parts each (names_before parts holds k) hold (sorted_at k hold at) (keep k hold lt at) (nodes_before k (omega (arith, le))) in
      subst (AreNamesOfNodes parts) (sym (after_more (own_names (length parts)) holds k hold at)) next

  pub last_stuck : (w : PartSet) → 1 ≤ length holds → ((p : ℕ) → Has w p ↔ IsJoinedLast parts holds p) → IsStuck parts w
  last_stuck w some is = go (some_at holds k (omega (arith, some)))
    where
      k : ℕ
      k = length holds - 1

      go : (hold : Hold) × (slice_get holds k ≡ Some hold) → IsStuck parts w
      go (hold, at) = union_stuck parts each (names_before parts holds k) hold (sorted_at k hold at) (keep k hold (omega (arith, some)) at) (nodes_before k (omega arith)) w
          (λ p. (λ h. to p ((is p).0 h), λ o. (is p).1 (record { k = k; last = omega (arith, some); hold = hold; at = at; joined = o })))
        where
          to : (p : ℕ) → IsJoinedLast parts holds p → IsOfOne (names_before parts holds k) hold.nodes p
          to p j =
              let e : j.k ≡ k = let l = j.last in omega (arith, l) in
              let same : j.hold ≡ hold = some_injective j.hold hold (sym (subst (λ m. slice_get holds m ≡ Some j.hold) e j.at) ∙ at) in
              subst (λ (h : Hold). IsOfOne (names_before parts holds k) h.nodes p) same (subst (λ m. IsOfOne (names_before parts holds m) j.hold.nodes p) e j.joined)
