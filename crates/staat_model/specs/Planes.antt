-- The planes of a set of parts, and the directions in which two of them cross.
use Rattle.std.specs.Prelude.{◌≡◌, ◌≢◌, List, [], ◌∷◌, ◌++◌, Contains, pos}
use Rattle.staat_vec.specs.declared.vector.V3.{V3}
use Rattle.staat_vec.specs.Vectors.{vector, cross, negative, vector_cmp}
use Rattle.staat_vec.specs.Primitives.{primitive, canon}
use Rattle.staat_model.specs.declared.assembly.Part.{Part}
use Rattle.staat_model.specs.declared.set.PartSet.{PartSet}
use Rattle.staat_model.specs.declared.certificate.Arc.{Arc}
use Rattle.staat_model.specs.Assemblies.{HoldsAt}
use Rattle.staat_model.specs.Facets.{IsFacet}
use Rattle.staat_vec.specs.Lists.{Lists}
use Rattle.staat_model.specs.Sets.{Has}

-- the normals of the three coordinate planes
abbrev pub axes : List V3
axes = vector (pos 1) (pos 0) (pos 0) ∷ vector (pos 0) (pos 1) (pos 0) ∷ vector (pos 0) (pos 0) (pos 1) ∷ []

-- n is the canonical normal of a facet of two pieces of different parts of w
pub record IsFacetPlane (parts : List Part) (w : PartSet) (n : V3) : Type 0 where
  pub arc : Arc
  pub facet : V3
  pub a_in : Has w arc.a
  pub b_in : Has w arc.b
  pub different : arc.a ≢ arc.b
  pub holds : HoldsAt parts arc (λ p q. IsFacet p q facet)
  pub is : n ≡ canon facet

-- the plane table of w: the axes, then the other canonical normals of facets, ascending
pub record ArePlanes (parts : List Part) (w : PartSet) (planes : List V3) : Type 0 where
  pub others : List V3
  pub others_are : Lists vector_cmp (λ n. IsFacetPlane parts w n × (Contains axes n → ⊥)) others
  pub is : planes ≡ axes ++ others

-- the two directions in which the plane of g crosses each of the planes
abbrev pub crossings : V3 → List V3 → List V3
crossings g [] = []
crossings g (h ∷ hs) = let v : V3 = primitive (cross g h) in v ∷ negative v ∷ crossings g hs

-- the vertices of the planes in pair order: each plane with each later one
abbrev pub vertices : List V3 → List V3
vertices [] = []
vertices (g ∷ gs) = crossings g gs ++ vertices gs
