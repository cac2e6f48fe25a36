-- The pairs and planes of a core, how it grows, and what it holds.
use Rattle.std.specs.Prelude.{◌≡◌, ◌≢◌, ℕ, ◌<◌, ◌≤◌, List, ◌++◌, All, Contains, length}
use Rattle.std.specs.Prelude.{slice_index_or, take}
use Rattle.staat_vec.specs.declared.vector.V3.{V3}
use Rattle.staat_vec.specs.Primitives.{canon}
use Rattle.staat_vec.specs.Vectors.{cross, origin}
use Rattle.staat_model.specs.declared.assembly.Part.{Part}
use Rattle.staat_model.specs.declared.certificate.Arc.{Arc}
use Rattle.staat_model.specs.declared.set.PartSet.{PartSet}
use Rattle.staat_model.specs.Assemblies.{HoldsAt}
use Rattle.staat_model.specs.Facets.{IsFacet}
use Rattle.staat_model.specs.Planes.{axes}
use Rattle.staat_model.specs.Removal.{MeetsAlong}
use Rattle.staat_graph.specs.Graphs.{HasArc}
use Rattle.staat_core.specs.declared.cores.Core.{Core}
use Rattle.staat_core.specs.declared.joins.Moving.{Moving}
use Rattle.staat_core.specs.Moves.{HoldsMoves}
use Rattle.staat_core.specs.Sources.{both_ways}

-- the pairs that are in use
abbrev pub core_pairs : Core → List Arc
core_pairs k = take k.count k.pairs

-- the planes that are in use
abbrev pub core_planes : Core → List V3
core_planes k = take k.used k.planes

-- plane i of them
abbrev pub core_plane_at : Core → ℕ → V3
core_plane_at k i = slice_index_or (core_planes k) i origin

-- all of the planes stand in the list
abbrev pub StandIn : (planes list : List V3) → Type 0
StandIn planes list = All (Contains list) planes

-- the arrays have their room, and the axes are among the planes
pub record HasRoom (k : Core) : Type 0 where
  pub long : length k.pairs ≡ 2016
  pub few : k.count ≤ 2016
  pub room : length k.planes ≡ 96
  pub most : k.used ≤ 96
  pub axes : StandIn axes (core_planes k)

-- the planes of these facets stand in the list
abbrev pub HasCanons : List V3 → List V3 → Type 0
HasCanons planes facets = All (λ n. Contains planes (canon n)) facets

-- the planes of all facets of the pair stand in the list
pub record HasPlanesOf (parts : List Part) (planes : List V3) (pair : Arc) : Type 0 where
  pub holds : HoldsAt parts pair (λ p q. (n : V3) → IsFacet p q n → Contains planes (canon n))

-- the pairs are some of these; and in each assembly the planes of the facets of each of them are there
pub record IsCore (pairs : List Arc) (speaks : List Part → Type 0) (k : Core) : Type 0 where
  pub room : HasRoom k
  pub among : All (Contains pairs) (core_pairs k)
  pub facets : (parts : List Part) → speaks parts → All (HasPlanesOf parts (core_planes k)) (core_pairs k)

-- a core without pairs
pub record IsEmptyCore (k : Core) : Type 0 where
  pub room : HasRoom k
  pub none : k.count ≡ 0

-- the second list goes on where the first ends
pub record GoesOn {X : Type 0} (xs ys : List X) : Type 0 where
  pub more : List X
  pub is : ys ≡ xs ++ more

-- the core has grown
pub record HasGrown (old new : Core) : Type 0 where
  pub pairs : GoesOn (core_pairs old) (core_pairs new)
  pub planes : GoesOn (core_planes old) (core_planes new)

-- ---- which parts lead to which

-- along d a piece of the part a meets one of the part b, by one of the pairs in some order
pub record LeadsAlong (parts : List Part) (pairs : List Arc) (d : V3) (a b : ℕ) : Type 0 where
  pub arc : Arc
  pub listed : Contains (both_ways pairs) arc
  pub from : arc.a ≡ a
  pub to : arc.b ≡ b
  pub meets : MeetsAlong parts d arc

-- so with each arc of a graph
abbrev pub AreLeading : List Part → List Arc → V3 → List ℕ → Type 0
AreLeading parts pairs d rows = (a b : ℕ) → HasArc rows a b → LeadsAlong parts pairs d a b

-- ---- what is held where planes cross

-- where the planes of g and h cross, if they do, nothing moves as far as the pairs tell
abbrev pub HoldsWhere : List Part → List Arc → Moving → PartSet → (g h : V3) → Type 0
HoldsWhere parts pairs moving w g h =
    cross g h ≢ origin → HoldsMoves parts (both_ways pairs) moving w (cross g h)

-- so where the plane of g crosses each of the first n planes of the core
abbrev pub HoldsWithFirst : List Part → Core → Moving → PartSet → V3 → ℕ → Type 0
HoldsWithFirst parts k moving w g n =
    (i : ℕ) → i < n → HoldsWhere parts (core_pairs k) moving w g (core_plane_at k i)

-- so where each two of the first n planes of the core cross
abbrev pub HoldsAmongFirst : List Part → Core → Moving → PartSet → ℕ → Type 0
HoldsAmongFirst parts k moving w n = (j : ℕ) → j < n → HoldsWithFirst parts k moving w (core_plane_at k j) j
