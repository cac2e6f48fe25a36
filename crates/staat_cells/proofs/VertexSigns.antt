-- The vertices of planes and their signs.
use Rattle.std.proofs.Common.{◌≡◌, ◌≢◌, zero, suc, refl, sym, ap, ◌∙◌, ℤ, pos, negsuc, neg_ℤ, inl, inr, ⊎_elim, List}
use Rattle.std.proofs.Common.{[], ◌∷◌, Contains}
use Rattle.staat_vec.specs.declared.vector.V3.{V3}
use Rattle.staat_vec.specs.declared.vector.Sign.{Sign}
use Rattle.staat_vec.specs.declared.vector.Sign.TheVariants.{Neg, Zero, Pos}
use Rattle.staat_vec.specs.Vectors.{vector, dot, cross, negative, origin, sign}
use Rattle.staat_vec.specs.Primitives.{IsPrimitive, primitive}
use Rattle.staat_vec.proofs.Ring.{Ex, num, ring}
use Rattle.staat_vec.proofs.VecRing.{dotE, values, v0, same_vector, dot_negative, cross_turned}
use Rattle.staat_vec.proofs.Canons.{negative-negative}
use Rattle.staat_vec.proofs.Primitives.{primitive-is, primitive-negative}
use Rattle.staat_model.specs.declared.tree.Kind.TheVariants.{Point}
use Rattle.staat_model.specs.Cells.{signs_of, kind_of, IsCell}
use Rattle.staat_model.specs.Planes.{vertices}
use Rattle.staat_model.proofs.Corners.{HoldsAxes, IsSame, on_both}
use Rattle.staat_model.proofs.CornerLemmas.{across_primitive, dot_multiple}
use Rattle.staat_model.proofs.EndLemmas.{from_vertices}
use Rattle.staat_model.proofs.FacetLemmas.{across_crosses}
use Rattle.staat_model.proofs.PlaneLemmas.{NoneParallel}
use Rattle.staat_model.proofs.VertexLemmas.{in_vertices}
use Rattle.staat_cells.proofs.Beside.{at_plane, from_planes}
use Rattle.staat_cells.proofs.EdgeIncidences.{IsCrossed}
use Rattle.staat_cells.proofs.Zeros.{two_zeros, point_kind, two_planes}
use Rattle.staat_model.proofs.ListedVertices.{vertex_some}
use Rattle.staat_vec.proofs.Signs.{times_sign, zero_sign}
use Rattle.staat_model.proofs.PointLemmas.{point_zeros}

-- ---- the planes of a vertex

pub vertex_crossed : (planes : List V3) (v : V3) → NoneParallel planes → Contains (vertices planes) v → IsCrossed planes v
vertex_crossed planes v apart has =
    let x = from_vertices planes v apart has in
    let o = on_both v x.g x.h x.independent x.is in
    record { g = x.g; h = x.h; g_in = x.g_in; h_in = x.h_in; independent = x.independent; on_g = o.on_g; on_h = o.on_h }

pub vertex_primitive : (planes : List V3) (v : V3) → NoneParallel planes → Contains (vertices planes) v → IsPrimitive v
vertex_primitive planes v apart has =
    let x = from_vertices planes v apart has in (on_both v x.g x.h x.independent x.is).primitive

pub vertex_point : (planes : List V3) (v : V3) → NoneParallel planes → Contains (vertices planes) v → kind_of (signs_of planes v) ≡ Point
vertex_point planes v apart has =
    let x = vertex_crossed planes v apart has in
    point_kind (signs_of planes v) (two_zeros (λ n. sign (dot n v)) planes x.g x.h x.g_in x.h_in x.independent (ap sign x.on_g) (ap sign x.on_h))

-- ---- a direction on two planes

-- a primitive vector on both is along their crossing
along_crossing : (n g h : V3) → IsPrimitive n → cross g h ≢ origin → dot g n ≡ pos 0 → dot h n ≡ pos 0
    → IsSame n (primitive (cross g h))
along_crossing n g h p independent on_g on_h =
    ⊎_elim (λ e. inl e) (λ e. inr (e ∙ ap primitive (cross_turned h g) ∙ primitive-negative (cross g h)))
    (across_crosses n g h p independent on_g on_h)

-- a direction and the primitive vector on its ray have the same signs
pub primitive_signs : (planes : List V3) (d : V3) → d ≢ origin → signs_of planes (primitive d) ≡ signs_of planes d
primitive_signs planes d some =
    let p = primitive-is d some in
    from_planes (λ n. sign (dot n (primitive d))) (λ n. sign (dot n d)) planes
    (λ g c. sym (ap sign (dot_multiple g d (primitive d) p.factor p.multiple) ∙ times_sign p.factor (dot g (primitive d)) p.positive))

pub point_vertex : (planes : List V3) (d : V3) → NoneParallel planes → d ≢ origin → kind_of (signs_of planes d) ≡ Point → Contains (vertices planes) (primitive d)
point_vertex planes d apart some point =
    let (g, h, g_in, h_in, independent, on_g, on_h) = two_planes (λ n. sign (dot n d)) planes apart (point_zeros (signs_of planes d) point) in
    let p = primitive-is d some in
    let flat : (m : V3) → sign (dot m d) ≡ Zero → dot m (primitive d) ≡ pos 0 =
    λ m on. across_primitive m d some (zero_sign (dot m d) on) in
    in_vertices planes g h (primitive d) g_in h_in independent
    (along_crossing (primitive d) g h p.primitive independent (flat g on_g) (flat h on_h))

-- each cell of a point has a vertex with its signs
pub point_has_vertex : (planes : List V3) (s : List Sign) → NoneParallel planes → IsCell planes s → kind_of s ≡ Point → (v : V3) × Contains (vertices planes) v × (signs_of planes v ≡ s)
point_has_vertex planes s apart cell point =
    (primitive cell.d, point_vertex planes cell.d apart cell.nonzero (ap kind_of cell.is ∙ point), primitive_signs planes cell.d cell.nonzero ∙ cell.is)

-- ---- one vertex for each list of signs

pub zero_turned : (a b : ℤ) → a ≡ neg_ℤ b → sign a ≡ sign b → b ≡ pos 0
zero_turned a (pos zero) e s = refl
zero_turned a (pos (suc n)) e s = let wrong : sign (neg_ℤ (pos (suc n))) ≡ Pos = ap sign (sym e) ∙ s in cc
zero_turned a (negsuc n) e s = let wrong : sign (neg_ℤ (negsuc n)) ≡ Neg = ap sign (sym e) ∙ s in cc

pub axes_zero : (planes : List V3) (v : V3) → HoldsAxes planes → ((g : V3) → Contains planes g → dot g v ≡ pos 0) → v ≡ origin
axes_zero planes v axes f =
    let ρ = values (v ∷ []) [] in
    let o : Ex = num (pos 0) in
    let i : Ex = num (pos 1) in
    same_vector v origin
    (ring ρ v0.x (dotE (record { x = i; y = o; z = o }) v0) tt ∙ f (vector (pos 1) (pos 0) (pos 0)) axes.x)
    (ring ρ v0.y (dotE (record { x = o; y = i; z = o }) v0) tt ∙ f (vector (pos 0) (pos 1) (pos 0)) axes.y)
    (ring ρ v0.z (dotE (record { x = o; y = o; z = i }) v0) tt ∙ f (vector (pos 0) (pos 0) (pos 1)) axes.z)

pub same_vertex : (planes : List V3) (v w : V3) → HoldsAxes planes → NoneParallel planes → Contains (vertices planes) v → Contains (vertices planes) w → signs_of planes v ≡ signs_of planes w → v ≡ w
same_vertex planes v w axes apart v_in w_in same =
    let x = from_vertices planes v apart v_in in
    let o = on_both v x.g x.h x.independent x.is in
    let on : (g : V3) → Contains planes g → dot g v ≡ pos 0 → dot g w ≡ pos 0 =
    λ g c z. zero_sign (dot g w) (sym (same_at g c) ∙ ap sign z) in
    go (cross x.g x.h) x.is (along_crossing w x.g x.h (vertex_primitive planes w apart w_in) x.independent
    (on x.g x.g_in o.on_g) (on x.h x.h_in o.on_h))
  where
    same_at : (g : V3) → Contains planes g → sign (dot g v) ≡ sign (dot g w)
    same_at g c = at_plane (λ n. sign (dot n v)) (λ n. sign (dot n w)) planes g same c

    opposite : v ≡ negative w → v ≡ w
    opposite e = absurd (vertex_some planes w apart w_in (axes_zero planes w axes (λ g c. zero_turned (dot g v) (dot g w) (ap (dot g) e ∙ dot_negative g w) (same_at g c))))

    go : (u : V3) → IsSame v (primitive u) → IsSame w (primitive u) → v ≡ w
    go u (inl e) (inl f) = e ∙ sym f
    go u (inr e) (inr f) = e ∙ sym f
    go u (inl e) (inr f) = opposite (e ∙ sym (ap negative f ∙ negative-negative (primitive u)))
    go u (inr e) (inl f) = opposite (e ∙ ap negative (sym f))
