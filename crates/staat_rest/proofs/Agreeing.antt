-- A hold keeps the rules under all lists of names that give its nodes the same parts.
use Rattle.std.proofs.Common.{◌≡◌, ℕ, List, length, All, Contains}
use Rattle.std.specs.Prelude.{Option, Some, slice_get}
use Rattle.std.specs.List.Sorted.{IsStrictlySortedBy}
use Rattle.std.specs.Ordering.{nat_cmp}
use Rattle.std.proofs.lemmas.List.Elements.{All-contains, All-weaker}
use Rattle.staat_vec.specs.declared.vector.V3.{V3}
use Rattle.staat_model.specs.declared.assembly.Part.{Part}
use Rattle.staat_model.specs.declared.certificate.Arc.{Arc}
use Rattle.staat_model.proofs.Members.{All-from_members}
use Rattle.staat_holds.specs.declared.hold.Hold.{Hold}
use Rattle.staat_holds.specs.Chains.{IsName, KeepsHoldRules, place_of, places_of}
use Rattle.staat_holds.specs.Holds.{IsCorePair, IsOfNode, IsOfSomeNode, JoinsNodes, LeadsBetween}
use Rattle.staat_holds.proofs.NodeNames.{of_place, place_to}
use Rattle.staat_holds.proofs.ReachLemmas.{carried}
use Rattle.staat_vec.proofs.Unique.{from_place}
use Rattle.staat_vec.proofs.ListLaws.{place_in_map}

-- a part that has the name of one of the nodes in the first list has it in the second
abbrev pub IsKept : (nodes a b : List ℕ) → Type 0
IsKept nodes a b = (n p : ℕ) → Contains nodes n → slice_get a p ≡ Some n → slice_get b p ≡ Some n

-- each part of a node among the first places is one of it among the second
abbrev IsWithinPlaces : (A B : List (Option ℕ)) → Type 0
IsWithinPlaces A B = (k p : ℕ) → IsOfNode A k p → IsOfNode B k p

node_as : (nodes a b : List ℕ) → IsStrictlySortedBy nat_cmp nodes → IsKept nodes a b → IsWithinPlaces (places_of nodes a) (places_of nodes b)
node_as nodes a b sorted kept k p h =
    let (n, named, is) = place_in_map (place_of nodes) a p (Some k) h in
    let at : slice_get nodes k ≡ Some n = place_to nodes k n is in
    (of_place nodes b k n p sorted at).1 (kept n p (from_place nodes k n at) named)

some_as : (A B : List (Option ℕ)) (count p : ℕ) → IsWithinPlaces A B → IsOfSomeNode A count p → IsOfSomeNode B count p
some_as A B count p to s = record { node = s.node; is = to s.node p s.is; few = s.few }

pair_as : (parts : List Part) (A B : List (Option ℕ)) (count : ℕ) (pair : Arc) → IsWithinPlaces A B → IsWithinPlaces B A → IsCorePair parts A count pair → IsCorePair parts B count pair
pair_as parts A B count pair to from c = record {
  pieces = c.pieces;
  first = some_as A B count pair.a to c.first;
  second = some_as A B count pair.b to c.second;
  apart = λ k f s. c.apart k (from k pair.a f) (from k pair.b s);
}

leads_as : (parts : List Part) (A B : List (Option ℕ)) (core : List Arc) (d : V3) → IsWithinPlaces A B → (x y : ℕ) → LeadsBetween parts A core d x y → LeadsBetween parts B core d x y
leads_as parts A B core d to x y l = record {
  pair = l.pair;
  listed = l.listed;
  from = to x l.pair.a l.from;
  to = to y l.pair.b l.to;
  meets = l.meets;
}

joins_as : (parts : List Part) (A B : List (Option ℕ)) (count : ℕ) (core : List Arc) → IsWithinPlaces A B → JoinsNodes parts A count core → JoinsNodes parts B count core
joins_as parts A B count core to held g h plane_g plane_h apart x y x_lt y_lt =
    carried (leads_as parts A B core _ to) (held g h plane_g plane_h apart x y x_lt y_lt)

pub keeps_as : (parts : List Part) (a b : List ℕ) (hold : Hold) → IsStrictlySortedBy nat_cmp hold.nodes → IsKept hold.nodes a b → IsKept hold.nodes b a → KeepsHoldRules parts a hold → KeepsHoldRules parts b hold
keeps_as parts a b hold sorted to from keeps =
    let A = places_of hold.nodes a in
    let B = places_of hold.nodes b in
    let count = length hold.nodes in
    let ahead = node_as hold.nodes a b sorted to in
    let back = node_as hold.nodes b a sorted from in record {
      nodes = All-from_members (IsName b) hold.nodes (λ n c. to n n c (All-contains (IsName a) hold.nodes n keeps.nodes c));
      two = keeps.two;
      pairs = All-weaker (IsCorePair parts A count) (IsCorePair parts B count) (λ pair c. pair_as parts A B count pair ahead back c) hold.pairs keeps.pairs;
      joins = joins_as parts A B count hold.pairs ahead keeps.joins;
    }
