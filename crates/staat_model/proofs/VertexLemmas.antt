-- A vertex of the planes lies on the border of each cell, and a side that is free along some direction is free along a vertex.
use Rattle.std.proofs.Common.{◌≡◌, ◌≢◌, ◌≤◌, zero, suc, sym, ap, subst, ◌∙◌, arith, inl, inr, List, [], ◌∷◌, Contains}
use Rattle.std.specs.FinSet as set
use Rattle.std.proofs.lemmas.List.Elements.{Contains-append_left, Contains-append_right}
use Rattle.staat_vec.specs.declared.vector.V3.{V3}
use Rattle.staat_vec.specs.Vectors.{cross, negative, origin}
use Rattle.staat_vec.specs.Primitives.{primitive}
use Rattle.staat_vec.proofs.VecRing.{cross_self, cross_turned}
use Rattle.staat_vec.proofs.Primitives.{IsPrimitive-some, primitive-negative}
use Rattle.staat_vec.proofs.Canons.{negative-negative}
use Rattle.staat_model.specs.declared.assembly.Part.{Part}
use Rattle.staat_model.specs.declared.set.PartSet.{PartSet}
use Rattle.staat_model.specs.Sets.{Has, IsSubset, IsSide, AreApart}
use Rattle.staat_model.specs.Assemblies.{IsAssembly}
use Rattle.staat_model.specs.Removal.{IsFree}
use Rattle.staat_model.specs.Plans.{IsStuck}
use Rattle.staat_model.specs.Planes.{ArePlanes, axes, vertices, crossings}
use Rattle.staat_model.specs.Cells.{signs_of, IsBorder}
use Rattle.staat_model.specs.Borders.{HasBorderVertex, HasFreeVertex}
use Rattle.staat_model.proofs.Corners.{HoldsAxes, IsSame, axes_held, corner_towards, on_both}
use Rattle.staat_model.proofs.RestrictLemmas.{rest_apart, rest_within}
use Rattle.staat_model.proofs.GraphLemmas.{axis_in, border_towards, arc_from_border}

-- ---- the list of vertices holds each crossing and its negative

in_crossings : (g h v : V3) (hs : List V3) → Contains hs h → IsSame v (primitive (cross g h)) → Contains (crossings g hs) v
in_crossings g h v [] (k, lt, e) same = absurd (omega arith)
in_crossings g h v (m ∷ hs) (zero, lt, e) (inl p) = (0, omega arith, ap (λ z. primitive (cross g z)) e ∙ sym p)
in_crossings g h v (m ∷ hs) (zero, lt, e) (inr p) = (1, omega arith, ap (λ z. negative (primitive (cross g z))) e ∙ sym p)
in_crossings g h v (m ∷ hs) (suc k, lt, e) same = let (j, less, at) = in_crossings g h v hs (k, omega arith, e) same in (suc (suc j), omega arith, at)

pub in_vertices : (gs : List V3) (g h v : V3) → Contains gs g → Contains gs h → cross g h ≢ origin → IsSame v (primitive (cross g h)) → Contains (vertices gs) v
in_vertices [] g h v (k, lt, e) h_in some same = absurd (omega arith)
in_vertices (m ∷ gs) g h v (zero, lt, e) (zero, lt2, e2) some same = absurd (some (ap (λ z. cross z h) (sym e ∙ e2) ∙ cross_self h))
in_vertices (m ∷ gs) g h v (zero, lt, e) (suc j, lt2, e2) some same =
    Contains-append_left (crossings m gs) (vertices gs) v (in_crossings m h v gs (j, omega arith, e2) (subst (λ z. IsSame v (primitive (cross z h))) (sym e) same))
in_vertices (m ∷ gs) g h v (suc k, lt, e) (zero, lt2, e2) some same =
    Contains-append_left (crossings m gs) (vertices gs) v (in_crossings m g v gs (k, omega arith, e) (turned (subst (λ z. IsSame v (primitive (cross g z))) (sym e2) same)))
  where
    back : primitive (cross g m) ≡ negative (primitive (cross m g))
    back = ap primitive (cross_turned g m) ∙ primitive-negative (cross m g)

    turned : IsSame v (primitive (cross g m)) → IsSame v (primitive (cross m g))
    turned (inl p) = inr (p ∙ back)
    turned (inr p) = inl (p ∙ ap negative back ∙ negative-negative (primitive (cross m g)))
in_vertices (m ∷ gs) g h v (suc k, lt, e) (suc j, lt2, e2) some same = Contains-append_right (crossings m gs) (vertices gs) v (in_vertices gs g h v (k, omega arith, e) (j, omega arith, e2) some same)

-- ---- a vertex on the border

pub holds_axes : (parts : List Part) (w : PartSet) (planes : List V3) → ArePlanes parts w planes → HoldsAxes planes
holds_axes parts w planes are = axes_held planes (λ axis c. axis_in parts w planes axis are c)

pub same_some : (v f : V3) → IsSame v f → f ≢ origin → v ≢ origin
same_some v f (inl p) some e = some (sym p ∙ e)
same_some v f (inr p) some e = some (sym (negative-negative f) ∙ ap negative (sym p ∙ e))

pub vertex_on_border_lemma : (planes : List V3) (d : V3) → HoldsAxes planes → d ≢ origin → HasBorderVertex planes d
vertex_on_border_lemma planes d axes some =
    let (v, c) = corner_towards planes d axes some in record {
      v = v;
      vertex = in_vertices planes c.g c.h v c.g_in c.h_in c.independent c.is;
      nonzero = let on = on_both v c.g c.h c.independent c.is in IsPrimitive-some v on.primitive;
      border = border_towards planes d v c.towards;
    }

-- what is free along a direction is free on the border of its cell
pub free_on_border : (parts : List Part) (w s r : PartSet) (planes : List V3) (d v : V3) → IsAssembly parts → ArePlanes parts w planes → IsSubset s w → IsSubset r w → AreApart s r
    → v ≢ origin → IsBorder (signs_of planes v) (signs_of planes d) → IsFree parts s r d → IsFree parts s r v
free_on_border parts w s r planes d v is are s_in r_in apart some border free = record {
  moves = some;
  clear = λ arc a_in b_in m. free.clear arc a_in b_in (arc_from_border parts w planes d v arc is are border (s_in arc.a a_in) (r_in arc.b b_in) (λ e. apart arc.a a_in (subst (Has r) (sym e) b_in)) m);
}

pub vertices_decide_lemma : (parts : List Part) (w s r : PartSet) (planes : List V3) (d : V3) → IsAssembly parts → ArePlanes parts w planes → IsSubset s w → IsSubset r w → AreApart s r
    → IsFree parts s r d → HasFreeVertex parts planes s r
vertices_decide_lemma parts w s r planes d is are s_in r_in apart free =
    let at = vertex_on_border_lemma planes d (holds_axes parts w planes are) free.moves in
    record { v = at.v; vertex = at.vertex; free = free_on_border parts w s r planes d at.v is are s_in r_in apart at.nonzero at.border free }

-- a set of two parts or more is stuck where at each vertex no side of it is free
pub stuck_at_vertices_lemma : (parts : List Part) (w : PartSet) (planes : List V3) → IsAssembly parts → ArePlanes parts w planes → 2 ≤ set.len w
    → ((v : V3) (s : PartSet) → Contains (vertices planes) v → IsSide w s → IsFree parts s (set.difference w s) v → ⊥) → IsStuck parts w
stuck_at_vertices_lemma parts w planes is are two none = record {
  two = two;
  held = λ s d side free. let at = vertices_decide_lemma parts w s (set.difference w s) planes d is are side.within (rest_within w s) (rest_apart w s) free in none at.v s at.vertex side at.free;
}
