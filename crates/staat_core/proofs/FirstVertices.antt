-- The first two vertices of the planes of a set of parts: the last coordinate axis, where the first two coordinate planes cross, and its opposite.
use Rattle.std.proofs.Common.{◌≡◌, ◌∙◌, ap, sym, subst, refl, List, [], ◌∷◌, ◌++◌, pos}
use Rattle.staat_vec.specs.declared.vector.V3.{V3}
use Rattle.staat_vec.specs.Lists.{IsFirst}
use Rattle.staat_vec.specs.Primitives.{content, primitive}
use Rattle.staat_vec.specs.Vectors.{cross, negative, vector}
use Rattle.staat_vec.proofs.ListLaws.{first_left}
use Rattle.staat_model.specs.declared.assembly.Part.{Part}
use Rattle.staat_model.specs.declared.set.PartSet.{PartSet}
use Rattle.staat_model.specs.Planes.{ArePlanes, axes, crossings, vertices}
use Rattle.staat_core.specs.declared.search.Served.{Served}
use Rattle.staat_core.specs.VertexSearch.{IsFirstServed}

abbrev last_axis : V3
last_axis = vector (pos 0) (pos 0) (pos 1)

axis_is : primitive (cross (vector (pos 1) (pos 0) (pos 0)) (vector (pos 0) (pos 1) (pos 0))) ≡ last_axis
unfolding primitive content
axis_is = refl

-- the vertices go on so behind the first two
abbrev others_behind : List V3 → List V3
others_behind others =
    (crossings (vector (pos 1) (pos 0) (pos 0)) (vector (pos 0) (pos 0) (pos 1) ∷ others))
    ++ vertices (vector (pos 0) (pos 1) (pos 0) ∷ vector (pos 0) (pos 0) (pos 1) ∷ others)

vertices_begin : (others : List V3) → vertices (axes ++ others) ≡ last_axis ∷ negative last_axis ∷ others_behind others
vertices_begin others = ap (λ v. v ∷ negative v ∷ others_behind others) axis_is

-- what serves along the last axis or its opposite is the first of all vertices that serves
pub axis_first : {F : Type 0} (serves : V3 → Type 0) (finds : V3 → F → Type 0) (parts : List Part) (w : PartSet) (planes : List V3) → ArePlanes parts w planes → (s : Served F)
    → IsFirstServed serves finds (last_axis ∷ negative last_axis ∷ []) s → IsFirstServed serves finds (vertices planes) s
axis_first serves finds parts w planes are s h = record {
  first = subst (λ vs. IsFirst serves vs s.d) (sym (ap vertices are.is ∙ vertices_begin are.others)) (first_left serves (last_axis ∷ negative last_axis ∷ []) (others_behind are.others) s.d h.first);
  found_is = h.found_is;
}
