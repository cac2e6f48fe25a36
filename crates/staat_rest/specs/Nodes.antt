-- Groups of parts that are stuck, by the names of their nodes, and the holds that show each of them by itself.
use Rattle.std.specs.Prelude.{◌≡◌, ◌↔◌, ℕ, ◌≤◌}
use Rattle.std.specs.Prelude.{List, [], ◌∷◌, ◌++◌, All, Contains, Some, get_or, length, map, slice_get}
use Rattle.staat_model.specs.declared.assembly.Part.{Part}
use Rattle.staat_holds.specs.declared.hold.Hold.{Hold}
use Rattle.staat_holds.specs.Chains.{IsJoinedLast, IsName, KeepsHoldRules, joined_name, names_after, own_names}
use Rattle.staat_holds.specs.Partials.{IsOrderedHold}

-- from these names on each hold keeps the rules, where those before it have joined their nodes
abbrev pub KeepFrom : List Part → List ℕ → List Hold → Type 0
KeepFrom parts names [] = Unit {0}
KeepFrom parts names (hold ∷ holds) =
    KeepsHoldRules parts names hold × KeepFrom parts (map (joined_name hold.nodes) names) holds

-- the part p belongs to the node n
abbrev pub IsInNode : List ℕ → (n p : ℕ) → Type 0
IsInNode names n p = slice_get names p ≡ Some n

-- the second list names each part of one of these nodes as the first does, and each other part by itself
pub record NamesOnly (names nodes now : List ℕ) : Type 0 where
  pub many : length now ≡ length names
  pub joined : (p n : ℕ) → IsInNode names n p → Contains nodes n → slice_get now p ≡ Some n
  pub others : (p n : ℕ) → IsInNode names n p → (Contains nodes n → ⊥) → slice_get now p ≡ Some p

-- the holds, by themselves, join the parts of the node n; there are none where it is a part by itself
pub record ShowsNode (parts : List Part) (names : List ℕ) (n : ℕ) (holds : List Hold) : Type 0 where
  pub ordered : All IsOrderedHold holds
  pub keep : KeepFrom parts (own_names (length parts)) holds
  pub within : All (λ hold. All (IsInNode names n) hold.nodes) holds
  pub named : NamesOnly names (n ∷ []) (names_after (own_names (length parts)) holds)
  pub alone : holds ≡ [] → (p : ℕ) → IsInNode names n p → p ≡ n
  pub joined : 1 ≤ length holds → (p : ℕ) → IsJoinedLast parts holds p ↔ IsInNode names n p

-- each part has the name of a node, and the list at the place of a node's name shows that node
pub record AreShown (parts : List Part) (names : List ℕ) (lists : List (List Hold)) : Type 0 where
  pub many : length names ≡ length parts
  pub lists_many : length lists ≡ length parts
  pub names_are : All (IsName names) names
  pub each : (n : ℕ) → IsName names n → ShowsNode parts names n (get_or lists n [])

-- the holds of these nodes, one list after the other
abbrev pub holds_of : List (List Hold) → List ℕ → List Hold
holds_of lists [] = []
holds_of lists (n ∷ nodes) = get_or lists n [] ++ holds_of lists nodes

-- the new lists have at the first of the hold's nodes the holds of all its nodes and the hold itself, and at the names
-- of other nodes what the old ones have
pub record AreJoined (old : List (List Hold)) (hold : Hold) (new : List (List Hold)) : Type 0 where
  pub many : length new ≡ length old
  pub first : get_or new (get_or hold.nodes 0 0) [] ≡ holds_of old hold.nodes ++ hold ∷ []
  pub others : (n : ℕ) → (Contains hold.nodes n → ⊥) → get_or new n [] ≡ get_or old n []

-- the hold is one of some of these nodes, whose parts the holds at their names have joined
pub record IsNodeHold (parts : List Part) (names : List ℕ) (lists : List (List Hold)) (hold : Hold) : Type 0 where
  pub ordered : IsOrderedHold hold
  pub two : 2 ≤ length hold.nodes
  pub named : All (IsName names) hold.nodes
  pub keeps : KeepsHoldRules parts (names_after (own_names (length parts)) (holds_of lists hold.nodes)) hold
