-- Which node each part is a member of, and where the nodes of each plan end, while they are read.
use Rattle.std.specs.Prelude.{◌≡◌, ◌≢◌, ◌⊎◌, ◌↔◌, ℕ, ◌+◌, ◌<◌, ◌≤◌, ◌^◌}
use Rattle.std.specs.Prelude.{List, Option, Some, length, slice_get, All}
use Rattle.staat_vec.specs.declared.vector.V3.{V3}
use Rattle.staat_vec.specs.declared.vector.TheConstants.{DIRECTION}
use Rattle.staat_vec.specs.Vectors.{IsWithin}
use Rattle.staat_model.specs.declared.assembly.Part.{Part}
use Rattle.staat_short.specs.declared.short.ShortNode.{ShortNode}
use Rattle.staat_short.specs.declared.short.ShortNode.TheVariants.{Split}
use Rattle.staat_short.specs.ShortTexts.{GroupedPlan, IsShortNodeInOrder, short_nodes_of}
use Rattle.staat_confirm.specs.Members.{AreMembersOnce, IsMemberAt, StandsAt}

-- the part p is a member of node k; the list has for each part the number of its node, or none
abbrev pub IsOwner : List (Option ℕ) → (p k : ℕ) → Type 0
IsOwner owners p k = slice_get owners p ≡ Some (Some k)

-- what has M is now owned by the node, besides what was owned
abbrev pub TakesAll : (M : ℕ → Type 0) → ℕ → (old new : List (Option ℕ)) → Type 0
TakesAll M node old new = (p k : ℕ) → IsOwner new p k ↔ (IsOwner old p k ⊎ (M p × (k ≡ node)))

-- p is no part, or another node owns it
abbrev pub IsTakenElsewhere : List (Option ℕ) → (p node : ℕ) → Type 0
IsTakenElsewhere owners p node = (length owners ≤ p) ⊎ ((k : ℕ) × IsOwner owners p k × (k ≢ node))

-- something that has M is refused
abbrev pub RefusesSome : (M : ℕ → Type 0) → ℕ → List (Option ℕ) → Type 0
RefusesSome M node owners = (p : ℕ) × M p × IsTakenElsewhere owners p node

-- the owners are the nodes before node n
pub record AreOwners (parts : List Part) (nodes : List ShortNode) (n : ℕ) (owners : List (Option ℕ)) : Type 0 where
  pub count : length owners ≡ length parts
  pub are : (p k : ℕ) → IsOwner owners p k ↔ ((k < n) × IsMemberAt parts nodes k p)

-- each has an owner
abbrev pub AreAllOwned : List (Option ℕ) → Type 0
AreAllOwned owners = (p : ℕ) → p < length owners → (k : ℕ) × IsOwner owners p k

-- p has none
abbrev pub IsUnowned : List (Option ℕ) → ℕ → Type 0
IsUnowned owners p = (p < length owners) × ((k : ℕ) → IsOwner owners p k → ⊥)

-- the node of p is one of those from `from` on, before `end`
pub record IsOwnedWithin (owners : List (Option ℕ)) (from end p : ℕ) : Type 0 where
  pub node : ℕ
  pub owner : IsOwner owners p node
  pub low : from ≤ node
  pub high : node < end

-- for each plan that stands at node m or later the number behind its last node
abbrev pub AreEndsFrom : List ShortNode → ℕ → List ℕ → Type 0
AreEndsFrom nodes m ends =
    (k : ℕ) (plan : GroupedPlan) → m ≤ k → StandsAt nodes k plan
    → slice_get ends k ≡ Some (k + length (short_nodes_of plan))

-- the nodes are those of one plan
abbrev pub AreOnePlan : List ShortNode → Type 0
AreOnePlan nodes = (plan : GroupedPlan) × (nodes ≡ short_nodes_of plan)

-- no direction is too great
abbrev pub AreDirectionsWithin : List ShortNode → Type 0
AreDirectionsWithin nodes = (k : ℕ) (d : V3) → slice_get nodes k ≡ Some (Split d) → IsWithin DIRECTION d

-- the nodes are those of one plan, within their bounds and in order
pub record AreFitNodes (nodes : List ShortNode) : Type 0 where
  pub one : AreOnePlan nodes
  pub few : length nodes < 2 ^ 32
  pub order : All IsShortNodeInOrder nodes
  pub sizes : AreDirectionsWithin nodes

-- of the nodes of a plan the owners and the ends are these, and each part is a member of one
pub record AreOwned (parts : List Part) (nodes : List ShortNode) (owners : List (Option ℕ)) (ends : List ℕ)
    : Type 0 where
  pub fit : AreFitNodes nodes
  pub once : AreMembersOnce parts nodes
  pub owned : AreOwners parts nodes (length nodes) owners
  pub ended : AreEndsFrom nodes 0 ends
