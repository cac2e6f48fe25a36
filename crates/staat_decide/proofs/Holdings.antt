-- Parts that pairs hold together, each of them a node by itself.
use Rattle.std.proofs.Common.{◌≡◌, ◌↔◌, ℕ, ◌<◌, ◌≤◌, All, List, Contains, arith, get_or, length, sym, subst, zero-add, ap, ◌∙◌}
use Rattle.std.specs.List.Sorted.{IsStrictlySortedBy}
use Rattle.std.specs.Ordering.{nat_cmp}
use Rattle.std.specs.Prelude.{Option, Some, slice_get}
use Rattle.std.proofs.lemmas.List.Elements.{All-contains}
use Rattle.std.proofs.lemmas.List.FromFn.{get_or-range_with_len, length-range_with_len}
use Rattle.std.proofs.lemmas.Option.{slice_get-get_or}
use Rattle.staat_model.specs.declared.assembly.Part.{Part}
use Rattle.staat_model.specs.declared.certificate.Arc.{Arc}
use Rattle.staat_model.specs.Assemblies.{IsPart}
use Rattle.staat_model.specs.SetLists.{set_of}
use Rattle.staat_model.specs.Sets.{Has}
use Rattle.staat_model.proofs.Members.{All-from_members}
use Rattle.staat_model.proofs.SetListings.{has-set_of}
use Rattle.staat_holds.specs.Chains.{IsName, IsOfOne, KeepsHoldRules, own_names, place_of, places_of}
use Rattle.staat_holds.specs.Holds.{IsCorePair, IsOfNode, JoinsNodes}
use Rattle.staat_holds.proofs.ChainLaw.{own_nodes, union_stuck, own_is}
use Rattle.staat_holds.proofs.NodeNames.{of_place, place_to}
use Rattle.staat_decide.specs.Decided.{IsStuckHold}
use Rattle.staat_vec.proofs.ListLaws.{place_in_map}

-- ---- names that are the parts' own

pub own_name : (count p : ℕ) → p < count → slice_get (own_names count) p ≡ Some p
own_name count p lt =
    let long = length-range_with_len 0 count in
    let at : p < length (own_names count) = omega (arith, long, lt) in
    slice_get-get_or (own_names count) p 0 at ∙ ap Some (get_or-range_with_len 0 count p 0 lt ∙ zero-add p)

-- a part at a place of the list is of that node
pub of_own : (w : List ℕ) (count k p : ℕ) → IsStrictlySortedBy nat_cmp w → k < length w → get_or w k 0 ≡ p → p < count
    → IsOfNode (places_of w (own_names count)) k p
of_own w count k p sorted lt e p_lt =
    (of_place w (own_names count) k p p sorted (slice_get-get_or w k 0 lt ∙ (λ i. Some (e i)))).1 (own_name count p p_lt)

-- and a part of a node stands at its place
pub own_of : (w : List ℕ) (count k p : ℕ) → IsOfNode (places_of w (own_names count)) k p → slice_get w k ≡ Some p
own_of w count k p h =
    let (m, named, is) = place_in_map (place_of w) (own_names count) p (Some k) h in
    place_to w k m is ∙ (λ i. Some (own_is count p m named i))

-- ---- what is held

pub hold_is : (parts : List Part) (w : List ℕ) (pairs : List Arc) → All IsPart parts → All (λ p. p < length parts) w
    → IsStrictlySortedBy nat_cmp w → 2 ≤ length w
    → All (IsCorePair parts (places_of w (own_names (length parts))) (length w)) pairs
    → JoinsNodes parts (places_of w (own_names (length parts))) (length w) pairs
    → IsStuckHold parts (record { nodes = w; pairs = pairs })
hold_is parts w pairs each within sorted two pairs_are joins = record {
  nodes_are = record { nonempty = omega (arith, two); ascending = sorted };
  within = within;
  stuck = union_stuck parts each (own_names (length parts)) (record { nodes = w; pairs = pairs }) sorted keeps (own_nodes parts (length parts)) (set_of w) same;
  keeps = keeps;
}
  where
    keeps : KeepsHoldRules parts (own_names (length parts)) (record { nodes = w; pairs = pairs })
    keeps = record {
      nodes = All-from_members (IsName (own_names (length parts))) w (λ p c. own_name (length parts) p (All-contains (λ q. q < length parts) w p within c));
      two = two;
      pairs = pairs_are;
      joins = joins;
    }

    same : (p : ℕ) → Has (set_of w) p ↔ IsOfOne (own_names (length parts)) w p
    same p = (
      λ h. let c = (has-set_of w p).0 h in record { name = p; named = own_name (length parts) p (All-contains (λ q. q < length parts) w p within c); listed = c },
      λ o. (has-set_of w p).1 (subst (Contains w) (own_is (length parts) p o.name o.named) o.listed),
    )

-- the same for lists that are equal to these
pub hold_kept : (parts : List Part) (w kept : List ℕ) (pairs kept_pairs : List Arc) (places : List (Option ℕ)) → All IsPart parts
    → All (λ p. p < length parts) w → IsStrictlySortedBy nat_cmp w → 2 ≤ length w → places ≡ places_of w (own_names (length parts))
    → All (IsCorePair parts places (length w)) pairs → JoinsNodes parts places (length w) pairs
    → kept ≡ w → kept_pairs ≡ pairs → IsStuckHold parts (record { nodes = kept; pairs = kept_pairs })
hold_kept parts w kept pairs kept_pairs places each within sorted two are pairs_are joins same same_pairs =
    subst (λ (ps : List Arc). IsStuckHold parts (record { nodes = kept; pairs = ps })) (sym same_pairs)
    (subst (λ (ns : List ℕ). IsStuckHold parts (record { nodes = ns; pairs = pairs })) (sym same)
    (hold_is parts w pairs each within sorted two
    (subst (λ (ps : List (Option ℕ)). All (IsCorePair parts ps (length w)) pairs) are pairs_are)
    (subst (λ (ps : List (Option ℕ)). JoinsNodes parts ps (length w) pairs) are joins)))

-- the same for what is handed on of the lists
pub hold_told : (parts : List Part) (w kept : List ℕ) (pairs kept_pairs : List Arc) (places first second : List (Option ℕ)) (third fourth : List Arc)
    → All IsPart parts → All (λ p. p < length parts) w → IsStrictlySortedBy nat_cmp w → 2 ≤ length w
    → places ≡ places_of w (own_names (length parts)) → first ≡ places → second ≡ places → third ≡ pairs → fourth ≡ pairs
    → All (IsCorePair parts first (length w)) third → JoinsNodes parts second (length w) fourth
    → kept ≡ w → kept_pairs ≡ pairs → IsStuckHold parts (record { nodes = kept; pairs = kept_pairs })
hold_told parts w kept pairs kept_pairs places first second third fourth each within sorted two are e1 e2 e3 e4 pairs_are joins same same_pairs =
    hold_kept parts w kept pairs kept_pairs places each within sorted two are
    (subst (λ (ps : List (Option ℕ)). All (IsCorePair parts ps (length w)) pairs) e1 (subst (All (IsCorePair parts first (length w))) e3 pairs_are))
    (subst (λ (ps : List (Option ℕ)). JoinsNodes parts ps (length w) pairs) e2 (subst (JoinsNodes parts second (length w)) e4 joins))
    same same_pairs
