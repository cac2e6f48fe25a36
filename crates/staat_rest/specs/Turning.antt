-- Holds and plans of the merged product, turned back to the parts.
use Rattle.std.specs.Prelude.{◌≡◌, ℕ, ◌<◌, ◌≤◌, List, [], Contains, get_or, length, map}
use Rattle.std.specs.Ordering.{nat_cmp}
use Rattle.staat_vec.specs.Lists.{Lists}
use Rattle.staat_model.specs.declared.assembly.Part.{Part}
use Rattle.staat_model.specs.declared.certificate.Arc.{Arc}
use Rattle.staat_model.specs.Plans.{Plan, leaf, split}
use Rattle.staat_holds.specs.declared.grouped.Group.{Group as GroupValue}
use Rattle.staat_holds.specs.declared.grouped.GroupedTree.{GroupedTree, Leaf, Group, Split'}
use Rattle.staat_holds.specs.declared.hold.Hold.{Hold}
use Rattle.staat_holds.specs.Chains.{AllKeep, IsJoinedLast}
use Rattle.staat_holds.specs.Partials.{IsShownRest}
use Rattle.staat_rest.specs.declared.merging.Origin.{Origin}
use Rattle.staat_rest.specs.declared.rest.Round.{Round}
use Rattle.staat_rest.specs.declared.rest.Round.TheVariants as round
use Rattle.staat_rest.specs.Merging.{origin_at}
use Rattle.staat_rest.specs.Nodes.{IsNodeHold}

-- the pair of pieces that a pair of the merged product was
abbrev pub original_pair : List (List Origin) → Arc → Arc
original_pair origins pair =
    let p = origin_at origins pair.a pair.i in
    let q = origin_at origins pair.b pair.j in
    record { a = p.part; i = p.piece; b = q.part; j = q.piece }

-- the names of the nodes that these merged parts stand for
abbrev pub original_nodes : List ℕ → List ℕ → List ℕ
original_nodes heads nodes = map (λ k. get_or heads k 0) nodes

-- the hold of nodes that a hold of merged parts is
abbrev pub original_hold : List ℕ → List (List Origin) → Hold → Hold
original_hold heads origins hold =
    record { nodes = original_nodes heads hold.nodes; pairs = map (original_pair origins) hold.pairs }

-- both pieces have an origin
pub record HasOrigins (origins : List (List Origin)) (pair : Arc) : Type 0 where
  pub a_in : pair.a < length origins
  pub i_in : pair.i < length (get_or origins pair.a [])
  pub b_in : pair.b < length origins
  pub j_in : pair.j < length (get_or origins pair.b [])

-- the group has these holds, one at least, and the parts that the last of them joins
pub record IsGroupOf (parts : List Part) (holds : List Hold) (group : GroupValue) : Type 0 where
  pub some : 1 ≤ length holds
  pub holds_are : group.holds ≡ holds
  pub members : Lists nat_cmp (IsJoinedLast parts holds) group.members

-- the tree is the plan of the merged product, where for each leaf stands its node: a part by itself, or a group
abbrev pub IsTurned : List Part → List ℕ → List (List Hold) → Plan → GroupedTree → Type 0
IsTurned parts heads lists (leaf k) (Leaf p) = (p ≡ get_or heads k 0) × (get_or lists p [] ≡ [])
IsTurned parts heads lists (leaf k) (Group group) = IsGroupOf parts (get_or lists (get_or heads k 0) []) group
IsTurned parts heads lists (leaf k) (Split' d x moved y rest) = ⊥
IsTurned parts heads lists (split d moved rest) (Leaf p) = ⊥
IsTurned parts heads lists (split d moved rest) (Group group) = ⊥
IsTurned parts heads lists (split d moved rest) (Split' e x left y right) =
    (e ≡ d) × IsTurned parts heads lists moved left × IsTurned parts heads lists rest right

-- each of these nodes has a list of holds that keep the rules
abbrev pub HaveLists : List Part → List ℕ → List (List Hold) → Type 0
HaveLists parts heads lists =
    (n : ℕ) → Contains heads n → (n < length lists) × AllKeep parts (get_or lists n [])

-- all leaves of the plan are below this number
abbrev pub HasLeavesBelow : ℕ → Plan → Type 0
HasLeavesBelow count (leaf k) = k < count
HasLeavesBelow count (split d moved rest) = HasLeavesBelow count moved × HasLeavesBelow count rest

-- a plan down to groups, or a hold of some of these nodes
abbrev pub IsRound : List Part → List ℕ → List (List Hold) → Round → Type 0
IsRound parts names lists (round.Rest rest) = IsShownRest parts rest
IsRound parts names lists (round.Held hold) = IsNodeHold parts names lists hold
