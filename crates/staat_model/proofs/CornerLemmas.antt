-- A pointed cone that holds a vector but zero holds a vertex.
use Rattle.std.proofs.Common.{◌≡◌, ℕ, ◌≢◌, refl, sym, ap, subst, ◌∙◌, pos, ◌*ℤ◌, ◌≤ℤ◌, ◌<ℤ◌, inl, inr, List, [], ◌∷◌, All}
use Rattle.std.proofs.lemmas.List.Elements.{All-contains, All-weaker}
use Rattle.staat_vec.specs.declared.vector.V3.{V3}
use Rattle.staat_vec.specs.Vectors.{vector, dot, cross, times, negative, origin}
use Rattle.staat_vec.specs.Primitives.{IsPrimitiveOf, primitive}
use Rattle.staat_model.specs.Cones.{IsAbove, IsSpanning, HasAxes, HasEither, HasCorner}
use Rattle.staat_vec.proofs.Ring.{Ex, at, num, ◌⊗◌, ring}
use Rattle.staat_vec.proofs.VecRing.{dotE, timesE, vectorE, values, v0, v1, same_vector, negative_dot}
use Rattle.staat_vec.proofs.Order.{cancel_nonneg, cancel_zero, nonneg_is}
use Rattle.staat_model.proofs.Edge.{edge_below}
use Rattle.staat_vec.proofs.Primitives.{primitive-is}
use Rattle.staat_vec.proofs.Integers.{cancel_positive, opposite_negative, zero_from_opposite, positive_pos}
use Rattle.staat_vec.proofs.VectorLaws.{some_square}

-- n is at right angles to an axis of the list
across_axis : (vs : List V3) (a n : V3) → HasEither vs a → All (λ v. dot v n ≡ pos 0) vs → dot a n ≡ pos 0
across_axis vs a n (inl c) h = All-contains (λ v. dot v n ≡ pos 0) vs a h c
across_axis vs a n (inr c) h = zero_from_opposite (dot a n) (sym (negative_dot a n) ∙ All-contains (λ v. dot v n ≡ pos 0) vs (negative a) h c)

pub axes_span : (vs : List V3) → HasAxes vs → IsSpanning vs
axes_span vs axes n h =
    let ρ = values (n ∷ []) [] in
    let o : Ex = num (pos 0) in
    let i : Ex = num (pos 1) in
    same_vector n origin
    (ring ρ v0.x (dotE (vectorE i o o) v0) tt ∙ across_axis vs (vector (pos 1) (pos 0) (pos 0)) n axes.x h)
    (ring ρ v0.y (dotE (vectorE o i o) v0) tt ∙ across_axis vs (vector (pos 0) (pos 1) (pos 0)) n axes.y h)
    (ring ρ v0.z (dotE (vectorE o o i) v0) tt ∙ across_axis vs (vector (pos 0) (pos 0) (pos 1)) n axes.z h)

pub dot_multiple : (v f n : V3) (k : ℕ) → f ≡ times k n → dot v f ≡ pos k *ℤ dot v n
dot_multiple v f n k e = ap (dot v) e ∙ ring (values (v ∷ n ∷ []) (pos k ∷ [])) (dotE v0 (timesE (at 6) v1)) (at 6 ⊗ dotE v0 v1) tt

-- what is at right angles to a vector is so to its primitive vector
pub across_primitive : (m f : V3) → f ≢ origin → dot m f ≡ pos 0 → dot m (primitive f) ≡ pos 0
across_primitive m f some on =
    let p = primitive-is f some in
    cancel_zero p.factor (dot m (primitive f)) p.positive (sym (dot_multiple m f (primitive f) p.factor p.multiple) ∙ on)

-- and what lies ahead of it lies ahead of its primitive vector
pub ahead_primitive : (m f : V3) → f ≢ origin → pos 0 <ℤ dot m f → pos 0 <ℤ dot m (primitive f)
ahead_primitive m f some h =
    let p = primitive-is f some in
    cancel_positive (pos p.factor) (dot m (primitive f)) (positive_pos p.factor p.positive) (subst (λ z. pos 0 <ℤ z) (dot_multiple m f (primitive f) p.factor p.multiple) h)

-- the sides of a vector are those of its primitive vector
pub above_primitive : (vs : List V3) (f n : V3) → IsPrimitiveOf f n → IsAbove f vs → IsAbove n vs
above_primitive vs f n i h =
    All-weaker (λ v. pos 0 ≤ℤ dot v f) (λ v. pos 0 ≤ℤ dot v n) (λ v q. cancel_nonneg (pos i.factor) (dot v n) (positive_pos i.factor i.positive) (nonneg_is (pos i.factor *ℤ dot v n) (dot v f) (sym (dot_multiple v f n i.factor i.multiple)) q)) vs h

pub corner_lemma : (vs : List V3) (d : V3) → HasAxes vs → d ≢ origin → IsAbove d vs → HasCorner vs
corner_lemma vs d axes some up =
    let (g, h, (in_g, in_h, apart, above), side) = edge_below vs d (negative d) (axes_span vs axes) up (opposite_negative (dot (negative d) d) (dot d d) (negative_dot d d) (some_square d some)) in
    record { v = primitive (cross g h); crossing = record { g = g; h = h; g_in = in_g; h_in = in_h; independent = apart; is = refl }; above = above_primitive vs (cross g h) (primitive (cross g h)) (primitive-is (cross g h) apart) above }
