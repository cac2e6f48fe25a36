-- Nodes of parts that a core holds together.
use Rattle.std.specs.Prelude.{◌≡◌, ◌≢◌, ◌⊎◌, ◌↔◌, ℕ, ◌<◌, List, ◌++◌, Contains}
use Rattle.std.specs.Prelude.{Option, Some}
use Rattle.std.specs.Prelude.{cond, length, nat_lt, slice_get}
use Rattle.staat_vec.specs.declared.vector.V3.{V3}
use Rattle.staat_vec.specs.Lists.{IsFirst, Lists}
use Rattle.staat_vec.specs.Vectors.{cross, origin, vector_cmp}
use Rattle.staat_model.specs.declared.assembly.Part.{Part}
use Rattle.staat_model.specs.declared.certificate.Arc.{Arc}
use Rattle.staat_model.specs.declared.set.PartSet.{PartSet}
use Rattle.staat_model.specs.Cores.{IsCorePlane}
use Rattle.staat_model.specs.Planes.{axes, vertices}
use Rattle.staat_model.specs.Removal.{MeetsAlong}
use Rattle.staat_model.specs.Sets.{Has}
use Rattle.staat_motion.specs.Motions.{HasBothPieces, turned}
use Rattle.staat_holds.specs.Reaching.{AllReach}

-- the part a belongs to the node k; the list has the number of its node for each part, or none
abbrev pub IsOfNode : List (Option ℕ) → ℕ → ℕ → Type 0
IsOfNode nodes k a = slice_get nodes a ≡ Some (Some k)

-- it belongs to one of the first nodes, so many
pub record IsOfSomeNode (nodes : List (Option ℕ)) (count a : ℕ) : Type 0 where
  pub node : ℕ
  pub is : IsOfNode nodes node a
  pub few : node < count

-- two pieces that exist, of parts of two of the nodes
pub record IsCorePair (parts : List Part) (nodes : List (Option ℕ)) (count : ℕ) (pair : Arc) : Type 0 where
  pub pieces : HasBothPieces parts pair
  pub first : IsOfSomeNode nodes count pair.a
  pub second : IsOfSomeNode nodes count pair.b
  pub apart : (k : ℕ) → IsOfNode nodes k pair.a → IsOfNode nodes k pair.b → ⊥

-- the core has the two pieces, in either order
abbrev pub HasPair : List Arc → Arc → Type 0
HasPair core pair = Contains core pair ⊎ Contains core (turned pair)

-- the pair with its lesser part first
unfoldable pub lesser_first : Arc → Arc
lesser_first pair = cond (nat_lt pair.b pair.a) (turned pair) pair

-- an arc of the core at d: of a pair of the core the one piece, of a part of the node x, meets along d the other one,
-- of a part of the node y
pub record LeadsBetween (parts : List Part) (nodes : List (Option ℕ)) (core : List Arc) (d : V3) (x y : ℕ)
    : Type 0 where
  pub pair : Arc
  pub listed : HasPair core pair
  pub from : IsOfNode nodes x pair.a
  pub to : IsOfNode nodes y pair.b
  pub meets : MeetsAlong parts d pair

-- a plane of the core: an axis, or the canonical normal of a facet of one of its pairs
abbrev pub IsHoldPlane : List Part → List Arc → V3 → Type 0
IsHoldPlane parts core n = Contains axes n ⊎ IsCorePlane parts core n

-- wherever two planes of the core cross, each node reaches each other one by the core's arcs there
abbrev pub JoinsNodes : List Part → List (Option ℕ) → ℕ → List Arc → Type 0
JoinsNodes parts nodes count core =
    (g h : V3) → IsHoldPlane parts core g → IsHoldPlane parts core h → cross g h ≢ origin
    → AllReach count (LeadsBetween parts nodes core (cross g h))

-- its planes in order: the axes, then the others, ascending
pub record AreHoldPlanes (parts : List Part) (core : List Arc) (planes : List V3) : Type 0 where
  pub others : List V3
  pub others_are : Lists vector_cmp (λ n. IsCorePlane parts core n × (Contains axes n → ⊥)) others
  pub is : planes ≡ axes ++ others

-- v is the first of their vertices, in pair order, at which some node does not reach some other one
pub record IsFirstGap (parts : List Part) (nodes : List (Option ℕ)) (count : ℕ) (core : List Arc) (v : V3)
    : Type 0 where
  pub planes : List V3
  pub planes_are : AreHoldPlanes parts core planes
  pub first : IsFirst (λ d. AllReach count (LeadsBetween parts nodes core d) → ⊥) (vertices planes) v

-- the sets are the nodes: the set at the place k has the parts that belong to the node k
pub record AreNodeSets (nodes : List (Option ℕ)) (count : ℕ) (sets : List PartSet) : Type 0 where
  pub number : length sets ≡ count
  pub members : (k a : ℕ) (s : PartSet) → slice_get sets k ≡ Some s → Has s a ↔ IsOfNode nodes k a
