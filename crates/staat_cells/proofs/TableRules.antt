-- What the rules of a table say of its planes.
use Rattle.std.proofs.Common.{◌≡◌, ◌≢◌, ◌⊎◌, ◌↔◌, inl, inr, ℕ, All, suc, refl, sym, subst, ⊎_elim, lit≤, ◌*◌}
use Rattle.std.proofs.Common.{arith, pos, List, [], ◌∷◌, Contains}
use Rattle.std.specs.Prelude.{slice_get, Some}
use Rattle.std.proofs.lemmas.List.Elements.{All-contains, Contains-append_left}
use Rattle.staat_vec.proofs.ListLaws.{place_of}
use Rattle.staat_vec.specs.declared.vector.V3.{V3}
use Rattle.staat_vec.specs.declared.vector.Sign.{Sign}
use Rattle.staat_vec.specs.declared.vector.TheConstants.{NORMAL, VERTEX}
use Rattle.staat_vec.specs.Lists.{Lists}
use Rattle.staat_vec.specs.Primitives.{primitive}
use Rattle.staat_vec.specs.Vectors.{IsWithin, cross, negative, origin, vector, vector_cmp}
use Rattle.staat_vec.proofs.Bounds.{IsWithin-cross, IsWithin-negative, IsWithin-wider}
use Rattle.staat_vec.proofs.Primitives.{IsPrimitive-some, IsWithin-primitive}
use Rattle.staat_model.specs.Certify.{IsDirection}
use Rattle.staat_model.specs.Planes.{axes, vertices}
use Rattle.staat_model.proofs.Corners.{HoldsAxes}
use Rattle.staat_model.proofs.EndLemmas.{from_vertices}
use Rattle.staat_model.proofs.Members.{All-from_members}
use Rattle.staat_model.proofs.PlaneLemmas.{NoneParallel}
use Rattle.staat_pairs.specs.Tables.{AreTablePlanes, IsPlaneNormal}
use Rattle.staat_cells.specs.declared.incidence.Incidence.{Incidence}
use Rattle.staat_cells.specs.Beside.{beside}
use Rattle.staat_cells.specs.Stages.{GrewByAll, IsAxisOff, IsBesideIncidence, IsEdgeIncidence}
use Rattle.staat_cells.proofs.EdgeIncidences.{beside_edge, edge_is_beside}
use Rattle.staat_cells.proofs.Growing.{grown_same}
use Rattle.staat_cells.proofs.VertexSigns.{vertex_crossed}
use Rattle.staat_model.proofs.ListedVertices.{vertex_some}

pub axis_in : (planes : List V3) (g : V3) → AreTablePlanes planes → Contains axes g → Contains planes g
axis_in planes g are c = subst (λ l. Contains l g) (sym are.is) (Contains-append_left axes are.others g c)

pub holds_axes : (planes : List V3) → AreTablePlanes planes → HoldsAxes planes
holds_axes planes are = record {
  x = axis_in planes (vector (pos 1) (pos 0) (pos 0)) are (0, omega arith, refl);
  y = axis_in planes (vector (pos 0) (pos 1) (pos 0)) are (1, omega arith, refl);
  z = axis_in planes (vector (pos 0) (pos 0) (pos 1)) are (2, omega arith, refl);
}

pub planes_some : (planes : List V3) → AreTablePlanes planes → (g : V3) → Contains planes g → g ≢ origin
planes_some planes are g c = let n = All-contains IsPlaneNormal planes g are.each c in IsPrimitive-some g n.primitive

-- planes at different places are not parallel, so none is to a later one
apart_from : (gs : List V3) → ((k m : ℕ) (g h : V3) → slice_get gs k ≡ Some g → slice_get gs m ≡ Some h → k ≢ m → cross g h ≢ origin) → NoneParallel gs
apart_from [] f = tt
apart_from (g ∷ gs) f = (
  All-from_members (λ h. cross g h ≢ origin) gs (λ h c. let (m, at) = place_of gs h c in f 0 (suc m) g h refl at (λ z. omega arith)),
  apart_from gs (λ k m g h p q n. f (suc k) (suc m) g h p q (λ e. n (omega arith))),
)

pub planes_apart : (planes : List V3) → AreTablePlanes planes → NoneParallel planes
planes_apart planes are = apart_from planes are.apart

pub vertex_small : (planes : List V3) (v : V3) → AreTablePlanes planes → Contains (vertices planes) v → IsWithin VERTEX v
vertex_small planes v are has =
    let f = from_vertices planes v (planes_apart planes are) has in
    let within : (n : V3) → Contains planes n → IsWithin NORMAL n = λ n c. (All-contains IsPlaneNormal planes n are.each c).within in
    let p = primitive (cross f.g f.h) in
    let small : IsWithin VERTEX p =
    IsWithin-primitive VERTEX (cross f.g f.h)
    (IsWithin-wider (2 * (NORMAL * NORMAL)) VERTEX (cross f.g f.h) (lit≤ tt)
    (IsWithin-cross NORMAL NORMAL f.g f.h (within f.g f.g_in) (within f.h f.h_in))) in
    ⊎_elim (λ e. subst (IsWithin VERTEX) (sym e) small)
    (λ e. subst (IsWithin VERTEX) (sym e) (IsWithin-negative VERTEX p small)) f.is

pub vertices_listed : (planes found : List V3) → Lists vector_cmp (IsDirection 1 planes) found → Lists vector_cmp (Contains (vertices planes)) found
vertices_listed planes found lists = record {
  ascending = lists.ascending;
  each = λ v c. (lists.each v c).vertex;
  all = λ v has. lists.all v (record { vertex = has; canonical = λ e. absurd (omega arith) });
}

pub listed_small : (planes found : List V3) → AreTablePlanes planes → Lists vector_cmp (Contains (vertices planes)) found → All (IsWithin VERTEX) found
listed_small planes found are lists = All-from_members (IsWithin VERTEX) found (λ v c. vertex_small planes v are (lists.each v c))

-- ---- the incidences of a vertex

pub vertex_off : (planes : List V3) (v : V3) → AreTablePlanes planes → Contains (vertices planes) v → v ≢ origin
vertex_off planes v are has = vertex_some planes v (planes_apart planes are) has

pub edge_incidences_are : (planes : List V3) (v m : V3) (k : ℕ) (x : Incidence) → AreTablePlanes planes → Contains (vertices planes) v → IsAxisOff v m → IsBesideIncidence planes planes v m k x ↔ IsEdgeIncidence planes v k x
edge_incidences_are planes v m k x are has off = (from, to)
  where
    apart : NoneParallel planes
    apart = planes_apart planes are

    from : IsBesideIncidence planes planes v m k x → IsEdgeIncidence planes v k x
    from b =
        let o = b.beside in
        let (w, towards, is) = which o.c b.signs o.towards in
        let (cell, edge, border) = beside_edge planes v b.signs apart (record { c = o.c; m = m; w = w; c_in = o.c_in; m_in = axis_in planes m are off.axis; on = o.on; off = off.off; towards = towards; is = is }) in
        record { signs = b.signs; cell = cell; edge = edge; border = border; is = b.is }
      where
        which : (c : V3) (s : List Sign) → (s ≡ beside planes v (cross c m)) ⊎ (s ≡ beside planes v (negative (cross c m))) → (w : V3) × ((w ≡ cross c m) ⊎ (w ≡ negative (cross c m))) × (s ≡ beside planes v w)
        which c s (inl e) = (cross c m, inl refl, e)
        which c s (inr e) = (negative (cross c m), inr refl, e)

    to : IsEdgeIncidence planes v k x → IsBesideIncidence planes planes v m k x
    to e = record { signs = e.signs; beside = edge_is_beside planes v m e.signs (planes_some planes are) off.off (vertex_crossed planes v apart has) e.cell e.edge e.border; is = e.is }

-- a list that has grown by the incidences beside a vertex has grown by those of its edges
pub edge_incidences_grew : (planes : List V3) (v m : V3) (k of : ℕ) (old new : List Incidence) → AreTablePlanes planes
    → Contains (vertices planes) v → IsAxisOff v m → of ≡ k → GrewByAll (IsBesideIncidence planes planes v m of) old new
    → GrewByAll (IsEdgeIncidence planes v k) old new
edge_incidences_grew planes v m k of old new are has off number grew x =
    grown_same (subst (λ n. GrewByAll (IsBesideIncidence planes planes v m n) old new) number grew x)
    (edge_incidences_are planes v m k x are has off)
