-- Cores: some of the pairs of pieces of a product, and what they hold together by themselves.
use Rattle.std.specs.Prelude.{◌≡◌, ◌≢◌, ◌⊎◌, List, Contains}
use Rattle.std.specs.FinSet as set
use Rattle.staat_vec.specs.declared.vector.V3.{V3}
use Rattle.staat_vec.specs.Vectors.{cross, negative, origin}
use Rattle.staat_vec.specs.Primitives.{primitive, canon}
use Rattle.staat_model.specs.declared.assembly.Part.{Part}
use Rattle.staat_model.specs.declared.set.PartSet.{PartSet}
use Rattle.staat_model.specs.declared.certificate.Arc.{Arc}
use Rattle.staat_model.specs.Assemblies.{HoldsAt}
use Rattle.staat_model.specs.Facets.{IsFacet}
use Rattle.staat_model.specs.Planes.{axes, vertices}
use Rattle.staat_model.specs.Removal.{MeetsAlong}
use Rattle.staat_model.specs.Sets.{Has, IsSide}

-- as far as the arcs of the core tell, s is free of r along d: along none of them a piece of s meets one of r
abbrev pub IsFreeInCore : List Part → List Arc → (s r : PartSet) → V3 → Type 0
IsFreeInCore parts core s r d =
    (arc : Arc) → Contains core arc → Has s arc.a → Has r arc.b → MeetsAlong parts d arc → ⊥

-- the core holds w together along d: no side of w is free of the rest, as far as its arcs tell
abbrev pub HoldsTogether : List Part → List Arc → PartSet → V3 → Type 0
HoldsTogether parts core w d =
    (s : PartSet) → IsSide w s → IsFreeInCore parts core s (set.difference w s) d → ⊥

-- n is the canonical normal of a facet of the two pieces of an arc of the core
pub record IsCorePlane (parts : List Part) (core : List Arc) (n : V3) : Type 0 where
  pub arc : Arc
  pub facet : V3
  pub listed : Contains core arc
  pub holds : HoldsAt parts arc (λ p q. IsFacet p q facet)
  pub is : n ≡ canon facet

-- the axes and all these normals stand in the list, which may have others too
pub record HasCorePlanes (parts : List Part) (core : List Arc) (planes : List V3) : Type 0 where
  pub has_axes : (n : V3) → Contains axes n → Contains planes n
  pub has_facets : (n : V3) → IsCorePlane parts core n → Contains planes n

-- v is a direction in which two of the planes cross
pub record IsVertexOf (planes : List V3) (v : V3) : Type 0 where
  pub listed : Contains (vertices planes) v
  pub moves : v ≢ origin

-- v is a direction in which the plane of g crosses one of the planes
pub record IsCrossingOn (g : V3) (planes : List V3) (v : V3) : Type 0 where
  pub h : V3
  pub h_in : Contains planes h
  pub apart : cross g h ≢ origin
  pub is : (v ≡ primitive (cross g h)) ⊎ (v ≡ negative (primitive (cross g h)))

-- s is free of r along some vertex of the planes, as far as the core tells
pub record IsFreeAtVertex (parts : List Part) (core : List Arc) (planes : List V3) (s r : PartSet) : Type 0 where
  pub v : V3
  pub vertex : IsVertexOf planes v
  pub free : IsFreeInCore parts core s r v

-- s is free of r along some crossing of the plane of g, as far as the core tells
pub record IsFreeAtCrossing (parts : List Part) (core : List Arc) (planes : List V3) (g : V3) (s r : PartSet)
    : Type 0 where
  pub v : V3
  pub crossing : IsCrossingOn g planes v
  pub free : IsFreeInCore parts core s r v

-- the core holds w together wherever two of the planes cross
abbrev pub HoldsAtVertices : List Part → List Arc → PartSet → List V3 → Type 0
HoldsAtVertices parts core w planes = (v : V3) → IsVertexOf planes v → HoldsTogether parts core w v

-- it does so wherever the plane of g crosses one of the planes
abbrev pub HoldsAtCrossings : List Part → List Arc → PartSet → V3 → List V3 → Type 0
HoldsAtCrossings parts core w g planes = (v : V3) → IsCrossingOn g planes v → HoldsTogether parts core w v
