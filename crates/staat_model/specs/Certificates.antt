-- What makes a certificate valid for an assembly.
use Rattle.std.specs.Prelude.{◌≡◌, ◌≢◌, ◌⊎◌, ℕ, ◌<◌, ◌≤◌, pos, ◌<ℤ◌, List, []}
use Rattle.std.specs.Prelude.{◌∷◌, ◌++◌, map, length, All, Contains}
use Rattle.std.specs.Prelude.{slice_get, Some}
use Rattle.std.specs.FinSet as set
use Rattle.std.specs.Ordering.{nat_cmp, ordering_then}
use Rattle.std.specs.declared.cmp.Ordering.{Ordering}
use Rattle.staat_vec.specs.declared.vector.V3.{V3}
use Rattle.staat_vec.specs.Vectors.{origin, dot, negative}
use Rattle.staat_model.specs.declared.assembly.Part.{Part}
use Rattle.staat_model.specs.declared.set.PartSet.{PartSet}
use Rattle.staat_model.specs.declared.certificate.Arc.{Arc}
use Rattle.staat_model.specs.declared.certificate.Sep.{Sep}
use Rattle.staat_model.specs.declared.certificate.Dir.{Dir}
use Rattle.staat_model.specs.declared.certificate.Node.{Node}
use Rattle.staat_model.specs.declared.certificate.Node.TheVariants.{Leaf, Split}
use Rattle.staat_model.specs.declared.certificate.Witness.{Witness}
use Rattle.staat_model.specs.declared.certificate.Body.{Body}
use Rattle.staat_model.specs.declared.certificate.Body.TheVariants as body
use Rattle.staat_model.specs.declared.certificate.Certificate.{Certificate}
use Rattle.staat_model.specs.Assemblies.{HoldsAt, piece_count}
use Rattle.staat_model.specs.Bridges.{swapped}
use Rattle.staat_model.specs.Facets.{IsFacet}
use Rattle.staat_vec.specs.Lists.{ListsOnce}
use Rattle.staat_model.specs.Planes.{ArePlanes, vertices}
use Rattle.staat_model.specs.Plans.{Plan, leaf, parts_of, split}
use Rattle.staat_model.specs.Sets.{Has, IsLeastOf, IsSubset, below, single}
use Rattle.staat_model.specs.Walls.{IsShown}

-- arcs are ordered by a, then i, then b, then j
abbrev pub arc_cmp : Arc → Arc → Ordering
arc_cmp p q =
    ordering_then (nat_cmp p.a q.a)
    (ordering_then (nat_cmp p.i q.i) (ordering_then (nat_cmp p.b q.b) (nat_cmp p.j q.j)))

-- a plan with walls at each split
pub data WalledPlan : Type 0 where
  walled_leaf : (part : ℕ) → WalledPlan
  walled_split : (d : V3) → (seps : List Sep) → (moved rest : WalledPlan) → WalledPlan

-- its nodes in preorder
abbrev pub nodes_of : WalledPlan → List Node
nodes_of (walled_leaf p) = Leaf p ∷ []
nodes_of (walled_split d seps moved rest) = Split d seps ∷ (nodes_of moved ++ nodes_of rest)

-- the plan without its walls
abbrev pub unwalled : WalledPlan → Plan
unwalled (walled_leaf p) = leaf p
unwalled (walled_split d seps moved rest) = split d (unwalled moved) (unwalled rest)

-- the parts at its leaves
abbrev pub walled_parts : WalledPlan → PartSet
walled_parts t = parts_of (unwalled t)

-- ---- plans

-- the arc joins a piece of a part of s and a piece of a part of r
pub record IsAcross (parts : List Part) (s r : PartSet) (arc : Arc) : Type 0 where
  pub a_in : Has s arc.a
  pub b_in : Has r arc.b
  pub i_in : arc.i < piece_count parts arc.a
  pub j_in : arc.j < piece_count parts arc.b

-- the arc leads across, and begins at that part
abbrev pub IsAcrossFrom : List Part → (s r : PartSet) → ℕ → Arc → Type 0
IsAcrossFrom parts s r a arc = IsAcross parts s r arc × (arc.a ≡ a)

-- and at that piece of it
abbrev pub IsAcrossFromPiece : List Part → (s r : PartSet) → ℕ → ℕ → Arc → Type 0
IsAcrossFromPiece parts s r a i arc = IsAcrossFrom parts s r a arc × (arc.i ≡ i)

-- and ends at that other part
abbrev pub IsAcrossTo : List Part → (s r : PartSet) → ℕ → ℕ → ℕ → Arc → Type 0
IsAcrossTo parts s r a i b arc = IsAcrossFromPiece parts s r a i arc × (arc.b ≡ b)

-- the wall is for two pieces across, and shows that the first, moved along d, never meets the second
pub record IsWall (parts : List Part) (s r : PartSet) (d : V3) (sep : Sep) : Type 0 where
  pub across : IsAcross parts s r sep.arc
  pub shown : HoldsAt parts sep.arc (λ p q. IsShown p q d sep.n)

-- s moves along d away from r: d is not zero, and there is one wall for each two pieces across, and no other
pub record SplitHolds (parts : List Part) (s r : PartSet) (d : V3) (seps : List Sep) : Type 0 where
  pub moves : d ≢ origin
  pub walls : All (IsWall parts s r d) seps
  pub arcs : ListsOnce (IsAcross parts s r) (map (λ sep. sep.arc) seps)

-- each split of the plan holds
abbrev pub SplitsHold : List Part → WalledPlan → Type 0
SplitsHold parts (walled_leaf p) = Unit {0}
SplitsHold parts (walled_split d seps moved rest) =
    SplitHolds parts (walled_parts moved) (walled_parts rest) d seps × SplitsHold parts moved × SplitsHold parts rest

-- node number k is the leaf of p
abbrev pub IsLeafAt : List Node → ℕ → ℕ → Type 0
IsLeafAt nodes k p = slice_get nodes k ≡ Some (Leaf p)

-- the leaves are all parts below n, each once
pub record AreAllLeaves (n : ℕ) (nodes : List Node) : Type 0 where
  pub each : (k p : ℕ) → IsLeafAt nodes k p → p < n
  pub all : (p : ℕ) → p < n → (k : ℕ) × IsLeafAt nodes k p
  pub once : (k m p : ℕ) → IsLeafAt nodes k p → IsLeafAt nodes m p → k ≡ m

-- the nodes are those of a plan for all parts of the assembly, each split of which holds
pub record PlanHolds (parts : List Part) (stated : ℕ) (nodes : List Node) : Type 0 where
  pub count : stated ≡ length parts
  pub tree : WalledPlan
  pub tree_is : nodes ≡ nodes_of tree
  pub leaves : AreAllLeaves (length parts) nodes
  pub splits : SplitsHold parts tree

-- ---- refusals

-- at least two parts, and each a part of the assembly
pub record IsStuckSet (parts : List Part) (w : PartSet) : Type 0 where
  pub two : 2 ≤ set.len w
  pub within : IsSubset w (below (length parts))

-- the arc joins different parts of w, and its pieces exist
pub record IsArcWithin (parts : List Part) (w : PartSet) (arc : Arc) : Type 0 where
  pub across : IsAcross parts w w arc
  pub different : arc.a ≢ arc.b

-- where an arc leads: from its first part to its second, and the other way round
abbrev pub outward : Arc → ℕ × ℕ
outward arc = (arc.a, arc.b)

abbrev pub inward : Arc → ℕ × ℕ
inward arc = swapped (outward arc)

-- each pair in order leads from a reached part to a new one of w, and all of w is reached
abbrev pub ReachesAll : PartSet → PartSet → List (ℕ × ℕ) → Type 0
ReachesAll w reached [] = reached ≡ w
ReachesAll w reached (pair ∷ pairs) =
    Has reached pair.0 × Has w pair.1 × (Has reached pair.1 → ⊥)
    × ReachesAll w (set.insert reached pair.1) pairs

-- the arcs lead from the least part of w to each other part, and back
pub record IsWitness (parts : List Part) (w : PartSet) (witness : Witness) : Type 0 where
  pub outs : All (IsArcWithin parts w) witness.outs
  pub ins : All (IsArcWithin parts w) witness.ins
  pub root : ℕ
  pub root_is : IsLeastOf w root
  pub outs_reach : ReachesAll w (single root) (map outward witness.outs)
  pub ins_reach : ReachesAll w (single root) (map inward witness.ins)

-- d leads ahead of every facet of the arc's two pieces, so that the first meets the second
abbrev pub IsBlocking : List Part → V3 → Arc → Type 0
IsBlocking parts d arc = HoldsAt parts arc (λ p q. (n : V3) → IsFacet p q n → pos 0 <ℤ dot n d)

-- every arc of the witness that the line names is blocking along the line's direction
pub record IsBlocked (parts : List Part) (witnesses : List Witness) (dir : Dir) : Type 0 where
  pub witness : Witness
  pub witness_is : slice_get witnesses dir.witness ≡ Some witness
  pub outs : All (IsBlocking parts dir.d) witness.outs
  pub ins : All (IsBlocking parts dir.d) witness.ins

-- some line has this direction
abbrev pub HasLine : List Dir → V3 → Type 0
HasLine dirs v = Contains (map (λ dir. dir.d) dirs) v

-- some line has this direction or, in version 2, the opposite one
abbrev pub IsListed : ℕ → List Dir → V3 → Type 0
IsListed version dirs v = HasLine dirs v ⊎ ((version ≡ 2) × HasLine dirs (negative v))

-- the set is stuck: along each vertex of its planes its parts block each other
pub record RefusalHolds (parts : List Part) (version stated : ℕ) (w : PartSet) (witnesses : List Witness)
    (dirs : List Dir) : Type 0 where
  pub count : stated ≡ length parts
  pub stuck_set : IsStuckSet parts w
  pub trees : All (IsWitness parts w) witnesses
  pub blocked : All (IsBlocked parts witnesses) dirs
  pub planes : List V3
  pub planes_are : ArePlanes parts w planes
  pub all : All (IsListed version dirs) (vertices planes)

-- ---- certificates

-- a valid plan, and a valid refusal
abbrev pub PlanBodyHolds : List Part → ℕ → Body → Type 0
PlanBodyHolds parts stated (body.Plan nodes) = PlanHolds parts stated nodes
PlanBodyHolds parts stated (body.Stuck w witnesses dirs) = ⊥

abbrev pub RefusalBodyHolds : List Part → (version stated : ℕ) → Body → Type 0
RefusalBodyHolds parts version stated (body.Plan nodes) = ⊥
RefusalBodyHolds parts version stated (body.Stuck w witnesses dirs) =
    RefusalHolds parts version stated w witnesses dirs

abbrev pub IsValidPlan : List Part → Certificate → Type 0
IsValidPlan parts c = PlanBodyHolds parts c.parts c.body

abbrev pub IsValidRefusal : List Part → Certificate → Type 0
IsValidRefusal parts c = RefusalBodyHolds parts c.version c.parts c.body
