-- Holds one after another, where what a hold joins is one node from then on. A list of names has for each part the
-- name of its node.
use Rattle.std.specs.Prelude.{◌≡◌, ℕ, ◌+◌, ◌<◌, ◌≤◌, cond, List, []}
use Rattle.std.specs.Prelude.{◌∷◌, All, Contains, Option, Some}
use Rattle.std.specs.Prelude.{get_or, length, map, nat_eq, slice_get, take}
use Rattle.std.specs.List.{list_any, position, range_with_len}
use Rattle.staat_vec.specs.Lists.{FailsFirst}
use Rattle.staat_model.specs.declared.assembly.Part.{Part}
use Rattle.staat_model.specs.declared.certificate.Arc.{Arc}
use Rattle.staat_holds.specs.declared.hold.BrokenHold.{BrokenHold}
use Rattle.staat_holds.specs.declared.hold.Hold.{Hold}
use Rattle.staat_holds.specs.declared.hold.HoldRule.{HoldRule}
use Rattle.staat_holds.specs.declared.hold.HoldRule.TheVariants.{BadPair, FewNodes, Gap, NoNode}
use Rattle.staat_holds.specs.Holds.{IsCorePair, IsFirstGap, JoinsNodes}

-- ---- names

-- each part is a node by itself, which has the part's number as its name
abbrev pub own_names : ℕ → List ℕ
own_names count = range_with_len 0 count

-- the name of a node once some nodes are one: that of the first of these, if it is one of them, and else its own
unfoldable pub joined_name : List ℕ → ℕ → ℕ
joined_name nodes name = cond (list_any (nat_eq name) nodes) (get_or nodes 0 name) name

-- the names after some holds, from those before
abbrev pub names_after : List ℕ → List Hold → List ℕ
names_after names [] = names
names_after names (hold ∷ holds) = names_after (map (joined_name hold.nodes) names) holds

-- the names before the hold at place k
abbrev pub names_before : List Part → List Hold → ℕ → List ℕ
names_before parts holds k = names_after (own_names (length parts)) (take k holds)

-- a node has this name: the part of this number belongs to it
abbrev pub IsName : List ℕ → ℕ → Type 0
IsName names n = slice_get names n ≡ Some n

-- ---- one hold

-- the place of a name among the nodes of a hold, or none
unfoldable pub place_of : List ℕ → ℕ → Option ℕ
place_of nodes name = position (nat_eq name) nodes

-- for each part the place of its node among the nodes of a hold, or none
abbrev pub places_of : List ℕ → List ℕ → List (Option ℕ)
places_of nodes names = map (place_of nodes) names

-- two pieces that exist, of parts of two nodes of the hold
abbrev pub IsHoldPair : List Part → List ℕ → List ℕ → Arc → Type 0
IsHoldPair parts names nodes pair = IsCorePair parts (places_of nodes names) (length nodes) pair

-- its nodes are nodes, two at least, its pairs are of these, and wherever two planes of the pairs cross, each node
-- reaches each other one by the arcs of the pairs
pub record KeepsHoldRules (parts : List Part) (names : List ℕ) (hold : Hold) : Type 0 where
  pub nodes : All (IsName names) hold.nodes
  pub two : 2 ≤ length hold.nodes
  pub pairs : All (IsHoldPair parts names hold.nodes) hold.pairs
  pub joins : JoinsNodes parts (places_of hold.nodes names) (length hold.nodes) hold.pairs

-- the rule is the first that the hold breaks
abbrev pub IsFirstRule : List Part → List ℕ → Hold → HoldRule → Type 0
IsFirstRule parts names hold (NoNode k) = FailsFirst (IsName names) hold.nodes k
IsFirstRule parts names hold FewNodes = All (IsName names) hold.nodes × (length hold.nodes < 2)
IsFirstRule parts names hold (BadPair k) =
    All (IsName names) hold.nodes × (2 ≤ length hold.nodes)
    × FailsFirst (IsHoldPair parts names hold.nodes) hold.pairs k
IsFirstRule parts names hold (Gap v) =
    All (IsName names) hold.nodes × (2 ≤ length hold.nodes)
    × All (IsHoldPair parts names hold.nodes) hold.pairs
    × IsFirstGap parts (places_of hold.nodes names) (length hold.nodes) hold.pairs v

-- ---- holds one after another

-- the first k holds keep the rules, each where those before it have joined their nodes
abbrev pub FirstKeep : List Part → List Hold → ℕ → Type 0
FirstKeep parts holds k =
    (m : ℕ) (hold : Hold) → m < k → slice_get holds m ≡ Some hold
    → KeepsHoldRules parts (names_before parts holds m) hold

-- all of them do
abbrev pub AllKeep : List Part → List Hold → Type 0
AllKeep parts holds = FirstKeep parts holds (length holds)

-- the hold at this place is the first that breaks a rule, and the rule the first that it breaks
pub record IsFirstBroken (parts : List Part) (holds : List Hold) (broken : BrokenHold) : Type 0 where
  pub hold : Hold
  pub at : slice_get holds broken.hold ≡ Some hold
  pub before : FirstKeep parts holds broken.hold
  pub rule : IsFirstRule parts (names_before parts holds broken.hold) hold broken.rule

-- p belongs to one of the nodes
pub record IsOfOne (names nodes : List ℕ) (p : ℕ) : Type 0 where
  pub name : ℕ
  pub named : slice_get names p ≡ Some name
  pub listed : Contains nodes name

-- p is one of the parts that the last of the first n holds joins
pub record IsJoinedAt (parts : List Part) (holds : List Hold) (n p : ℕ) : Type 0 where
  pub k : ℕ
  pub last : k + 1 ≡ n
  pub hold : Hold
  pub at : slice_get holds k ≡ Some hold
  pub joined : IsOfOne (names_before parts holds k) hold.nodes p

-- one of the parts that the last of all holds joins
abbrev pub IsJoinedLast : List Part → List Hold → ℕ → Type 0
IsJoinedLast parts holds p = IsJoinedAt parts holds (length holds) p
