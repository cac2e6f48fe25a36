-- A direction on two planes is a positive multiple of a vertex; and the representative of a cell lies in it.
use Rattle.std.proofs.Common.{◌≡◌, ◌≢◌, ℕ, suc, ◌≤◌, sym, ap, ◌∙◌, arith, pos, inl, inr, ⊎_elim, List, [], ◌∷◌, Contains}
use Rattle.std.proofs.lemmas.List.Elements.{All-contains}
use Rattle.staat_vec.specs.declared.vector.V3.{V3}
use Rattle.staat_vec.specs.declared.vector.Sign.{Sign}
use Rattle.staat_vec.specs.Vectors.{dot, cross, origin, sign}
use Rattle.staat_vec.specs.Primitives.{primitive}
use Rattle.staat_vec.proofs.VecRing.{cross_turned}
use Rattle.staat_vec.proofs.Primitives.{primitive-is, primitive-negative}
use Rattle.staat_model.specs.declared.assembly.Part.{Part}
use Rattle.staat_model.specs.declared.set.PartSet.{PartSet}
use Rattle.staat_model.specs.declared.tree.Kind.{Kind}
use Rattle.staat_model.specs.declared.tree.Kind.TheVariants.{Point, Edge, Open}
use Rattle.staat_model.specs.Cones.{IsAcrossTwo}
use Rattle.staat_model.specs.Planes.{ArePlanes, vertices}
use Rattle.staat_model.specs.Cells.{signs_of, kind_of, kind_by_count, IsCell, IsEdgeSum, IsRepresentative}
use Rattle.staat_model.proofs.CornerLemmas.{across_primitive}
use Rattle.staat_model.proofs.FacetLemmas.{across_crosses}
use Rattle.staat_model.proofs.VertexLemmas.{holds_axes, in_vertices}
use Rattle.staat_model.proofs.PlaneLemmas.{NoneParallel, planes_apart, plane_some}
use Rattle.staat_model.proofs.CellLemmas.{zeros, zeros_off, zeros_on, edges_add_up_lemma}
use Rattle.staat_model.proofs.EndLemmas.{edge_has_sum, edge_sum_in}
use Rattle.staat_vec.proofs.Unique.{IsFirst-in, Contains-front}
use Rattle.staat_vec.proofs.Signs.{sign_zero_or, zero_sign}
use Rattle.staat_vec.proofs.ListLaws.{Contains-there}

-- ---- two planes through a point

one_plane : (gs : List V3) (d : V3) → 1 ≤ zeros (signs_of gs d) → (g : V3) × Contains gs g × (dot g d ≡ pos 0)
one_plane [] d h = absurd (omega (arith, h))
one_plane (g ∷ gs) d h = elim (sign_zero_or (sign (dot g d))) [
  | inl e ↦ (g, Contains-front g gs, zero_sign (dot g d) e)
  | inr n ↦ let (m, c, on) = one_plane gs d (omega (arith, h, zeros_off (sign (dot g d)) (signs_of gs d) n)) in (m, Contains-there g m gs c, on)
]

two_planes : (gs : List V3) (d : V3) → NoneParallel gs → 2 ≤ zeros (signs_of gs d) → IsAcrossTwo gs d
two_planes [] d apart h = absurd (omega (arith, h))
two_planes (g ∷ gs) d (head, rest) h = elim (sign_zero_or (sign (dot g d))) [
  | inl e ↦
      let (m, c, on) = one_plane gs d (omega (arith, h, zeros_on (sign (dot g d)) (signs_of gs d) e)) in
      record { u = g; v = m; u_in = Contains-front g gs; v_in = Contains-there g m gs c; independent = All-contains (λ h. cross g h ≢ origin) gs m head c; u_on = zero_sign (dot g d) e; v_on = on }
  | inr n ↦
      let o = two_planes gs d rest (omega (arith, h, zeros_off (sign (dot g d)) (signs_of gs d) n)) in
      record { u = o.u; v = o.v; u_in = Contains-there g o.u gs o.u_in; v_in = Contains-there g o.v gs o.v_in; independent = o.independent; u_on = o.u_on; v_on = o.v_on }
]

pub point_two_zeros : (n : ℕ) → kind_by_count n ≡ Point → 2 ≤ n
point_two_zeros (suc (suc n)) e = omega arith
point_two_zeros n e = cc

pub point_zeros : (s : List Sign) → kind_of s ≡ Point → 2 ≤ zeros s
point_zeros s e = point_two_zeros (zeros s) e

pub point_is_vertex_lemma : (parts : List Part) (w : PartSet) (planes : List V3) (d : V3) → ArePlanes parts w planes → d ≢ origin → kind_of (signs_of planes d) ≡ Point → Contains (vertices planes) (primitive d)
point_is_vertex_lemma parts w planes d are some point =
    let o = two_planes planes d (planes_apart parts w planes are) (point_zeros (signs_of planes d) point) in
    let p = primitive-is d some in
    let n = primitive d in
    in_vertices planes o.u o.v n o.u_in o.v_in o.independent
    (⊎_elim (λ e. inl e) (λ e. inr (e ∙ ap primitive (cross_turned o.v o.u) ∙ primitive-negative (cross o.u o.v)))
    (across_crosses n o.u o.v p.primitive o.independent (across_primitive o.u d some o.u_on) (across_primitive o.v d some o.v_on)))

-- ---- representatives

pub edge_has_sum_lemma : (parts : List Part) (w : PartSet) (planes : List V3) (s : List Sign) → ArePlanes parts w planes → IsCell planes s → kind_of s ≡ Edge → (d : V3) × IsEdgeSum planes s d
edge_has_sum_lemma parts w planes s are = edge_has_sum planes s (holds_axes parts w planes are) (planes_apart parts w planes are) (λ g c. plane_some parts w planes g are c)

edge_on : (parts : List Part) (w : PartSet) (planes : List V3) (s : List Sign) (d : V3) → ArePlanes parts w planes → IsCell planes s → kind_of s ≡ Edge → IsEdgeSum planes s d → signs_of planes d ≡ s
edge_on parts w planes s d are cell edge = edge_sum_in planes s (holds_axes parts w planes are) (planes_apart parts w planes are) (λ g c. plane_some parts w planes g are c) cell edge d

-- the representative of a cell lies in it
pub representative_lemma : (parts : List Part) (w : PartSet) (planes : List V3) (kind : Kind) (s : List Sign) (d : V3) → ArePlanes parts w planes → IsCell planes s → kind_of s ≡ kind → IsRepresentative kind planes s d → signs_of planes d ≡ s
representative_lemma parts w planes Point s d are cell kind first = (IsFirst-in (λ v. signs_of planes v ≡ s) (vertices planes) d first).1
representative_lemma parts w planes Edge s d are cell kind sum = edge_on parts w planes s d are cell kind sum
representative_lemma parts w planes Open s d are cell kind sum =
    let e_is = sum.first.has in
    let (f_is, different) = sum.second.has in
    ap (signs_of planes) sum.is
    ∙ edges_add_up_lemma planes s sum.e sum.f sum.u sum.v e_is.edge f_is.edge e_is.border f_is.border (λ q. different (sym q))
    (edge_on parts w planes sum.e sum.u are e_is.cell e_is.edge sum.u_is)
    (edge_on parts w planes sum.f sum.v are f_is.cell f_is.edge sum.v_is)
