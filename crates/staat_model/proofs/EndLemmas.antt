-- The two ends of an edge, as vertices on its border, and their sum.
use Rattle.std.proofs.Common.{◌≡◌, ◌≢◌, zero, suc, refl, sym, ap, subst, ◌∙◌, arith, pos, ◌<ℤ◌, ◌⊎◌, inl, inr, ⊎_elim, List, [], ◌∷◌, Contains, ◌≤ℤ◌}
use Rattle.std.proofs.lemmas.Int.{by_lt_z}
use Rattle.std.proofs.lemmas.List.Elements.{All-contains, Contains-append_cases}
use Rattle.std.specs.Ordering.{ordering_reverse}
use Rattle.std.specs.declared.cmp.Ordering.{Ordering}
use Rattle.std.specs.declared.cmp.Ordering.TheVariants.{Less, Equal, Greater}
use Rattle.std.specs.List.Sorted.{IsStrictlySortedBy}
use Rattle.staat_vec.specs.declared.vector.V3.{V3}
use Rattle.staat_vec.specs.declared.vector.Sign.{Sign}
use Rattle.staat_vec.specs.declared.vector.Sign.TheVariants.{Zero}
use Rattle.staat_vec.specs.Vectors.{dot, cross, plus, negative, origin, sign, vector_cmp}
use Rattle.staat_vec.specs.Primitives.{primitive}
use Rattle.staat_vec.proofs.VecRing.{crossE, dotE, negativeE, values, v0, v1, negative_dot, dot_negative, dot_cross_left, dot_cross_right, dot_comm}
use Rattle.staat_vec.proofs.Order.{positive_nonneg}
use Rattle.staat_vec.proofs.Ring.{ring}
use Rattle.staat_model.specs.declared.tree.Kind.TheVariants.{Edge}
use Rattle.staat_vec.specs.Lists.{Lists}
use Rattle.staat_model.specs.Planes.{vertices, crossings}
use Rattle.staat_model.specs.Cells.{signs_of, kind_of, IsCell, IsEnd, IsEdgeSum}
use Rattle.staat_vec.proofs.VectorOrder.{vector_exact, vector_total, vector_not_below_itself}
use Rattle.staat_model.proofs.Corners.{HoldsAxes, IsSame, IsCornerTowards}
use Rattle.staat_model.proofs.GraphLemmas.{border_at, border_towards, towards_border}
use Rattle.staat_model.proofs.VertexLemmas.{in_vertices}
use Rattle.staat_model.proofs.PlaneLemmas.{NoneParallel}
use Rattle.staat_model.proofs.CellLemmas.{zeros, zeros_off, zeros_on, edge_zeros, off_all, Covers, sum_covers}
use Rattle.staat_model.proofs.EdgeLemmas.{IsOnOne, IsAhead, IsTip, ahead, tip, cross_positive, same_tip, same_tip_low, tip_aside, not_both}
use Rattle.staat_vec.proofs.Integers.{negative_nonneg_clash, opposite_negative_back, zero_from_bounds_down, opposite_zero}
use Rattle.staat_vec.proofs.VectorLaws.{plus_comm}
use Rattle.staat_vec.proofs.Unique.{Contains-cases, Contains-front, Contains-nothing}
use Rattle.staat_vec.proofs.ListLaws.{Contains-there}
use Rattle.staat_vec.proofs.Signs.{sign_zero_or, zero_sign}

-- ---- the planes of a vertex

-- two planes of the list that are not parallel, and on whose crossing v lies
pub record FromTwo (gs : List V3) (v : V3) : Type 0 where
  pub g : V3
  pub h : V3
  pub g_in : Contains gs g
  pub h_in : Contains gs h
  pub independent : cross g h ≢ origin
  pub is : IsSame v (primitive (cross g h))

from_crossings : (g : V3) (hs : List V3) (v : V3) → Contains (crossings g hs) v → (h : V3) × Contains hs h × IsSame v (primitive (cross g h))
from_crossings g [] v (k, lt, e) = absurd (omega arith)
from_crossings g (h ∷ hs) v (zero, lt, e) = (h, Contains-front h hs, inl (sym e))
from_crossings g (h ∷ hs) v (suc zero, lt, e) = (h, Contains-front h hs, inr (sym e))
from_crossings g (h ∷ hs) v (suc (suc k), lt, e) = let (m, c, s) = from_crossings g hs v (k, omega arith, e) in (m, Contains-there h m hs c, s)

pub from_vertices : (gs : List V3) (v : V3) → NoneParallel gs → Contains (vertices gs) v → FromTwo gs v
from_vertices [] v apart (k, lt, e) = absurd (omega arith)
from_vertices (g ∷ gs) v (head, rest) has = elim (Contains-append_cases (crossings g gs) (vertices gs) v has) [
  | inl c ↦ let (h, in_gs, same) = from_crossings g gs v c in record { g = g; h = h; g_in = Contains-front g gs; h_in = Contains-there g h gs in_gs; independent = All-contains (λ h. cross g h ≢ origin) gs h head in_gs; is = same }
  | inr c ↦ let f = from_vertices gs v rest c in record { g = f.g; h = f.h; g_in = Contains-there g f.g gs f.g_in; h_in = Contains-there g f.h gs f.h_in; independent = f.independent; is = f.is }
]

-- the vertices on the border of d's cell are the crossings on no other side than d
end_corner : (planes : List V3) (d v : V3) → NoneParallel planes → IsEnd planes (signs_of planes d) v → IsCornerTowards planes d v
end_corner planes d v apart end =
    let f = from_vertices planes v apart end.vertex in
    record { g = f.g; h = f.h; g_in = f.g_in; h_in = f.h_in; independent = f.independent; is = f.is; towards = towards_border planes d v end.border }

corner_end : (planes : List V3) (d v : V3) → IsCornerTowards planes d v → IsEnd planes (signs_of planes d) v
corner_end planes d v c = record { vertex = in_vertices planes c.g c.h v c.g_in c.h_in c.independent c.is; border = border_towards planes d v c.towards }

-- ---- the plane of an edge

pub on_one : (gs : List V3) (d : V3) → zeros (signs_of gs d) ≡ 1 → (c : V3) × Contains gs c × (dot c d ≡ pos 0) × ((g : V3) → Contains gs g → (g ≡ c) ⊎ (dot g d ≢ pos 0))
on_one [] d e = absurd (omega (arith, e))
on_one (h ∷ gs) d e = elim (sign_zero_or (sign (dot h d))) [
  | inl z ↦
      let none : zeros (signs_of gs d) ≡ 0 = omega (arith, e, zeros_on (sign (dot h d)) (signs_of gs d) z) in
      (h, Contains-front h gs, zero_sign (dot h d) z, λ g c. ⊎_elim (λ p. inl p) (λ later. inr (λ q. off_all gs d none g later (ap sign q))) (Contains-cases h gs g c))
  | inr off ↦
      let (c, c_in, on, only) = on_one gs d (sym (zeros_off (sign (dot h d)) (signs_of gs d) off) ∙ e) in
      (c, Contains-there h c gs c_in, on, λ g g_in. ⊎_elim (λ p. inr (λ q. off (ap sign (ap (λ v. dot v d) (sym p) ∙ q)))) (only g) (Contains-cases h gs g g_in))
]

-- ---- the two ends

covers_all : (gs : List V3) (u v d : V3) → ((g : V3) → Contains gs g → (sign (dot g u) ≡ sign (dot g d)) ⊎ (sign (dot g v) ≡ sign (dot g d))) → Covers (signs_of gs u) (signs_of gs v) (signs_of gs d)
covers_all [] u v d f = tt
covers_all (g ∷ gs) u v d f = (f g (Contains-front g gs), covers_all gs u v d (λ h c. f h (Contains-there g h gs c)))

-- the two, in this order, are all that has P
pub pair_lists : (P : V3 → Type 0) (u v : V3) → vector_cmp u v ≡ Less → P u → P v → ((w : V3) → P w → (w ≡ u) ⊎ (w ≡ v)) → Lists vector_cmp P (u ∷ v ∷ [])
unfolding IsStrictlySortedBy
pair_lists P u v less pu pv all = record {
  ascending = ((less, tt), (tt, tt));
  each = λ w c. elim (Contains-cases u (v ∷ []) w c) [
    | inl e ↦ subst P (sym e) pu
    | inr later ↦ elim (Contains-cases v [] w later) [ inl e ↦ subst P (sym e) pv | inr none ↦ absurd (Contains-nothing w none) ]
  ];
  all = λ w h. elim (all w h) [ inl e ↦ (0, omega arith, sym e) | inr e ↦ (1, omega arith, sym e) ];
}

module _ (planes : List V3) (d c : V3) (axes : HoldsAxes planes) (apart : NoneParallel planes) (one : IsOnOne planes d c) (some_c : c ≢ origin) where
  square : pos 0 <ℤ dot (cross c d) (cross c d)
  square = cross_positive c d some_c one.some one.on

  -- the end on the side of c x d
  front : IsAhead planes d (cross c d)
  front = ahead planes d c (cross c d) axes one (dot_cross_left c d) (dot_comm (cross c d) d ∙ dot_cross_right c d) square

  -- the end on the other side
  rear : IsAhead planes d (negative (cross c d))
  rear = ahead planes d c (negative (cross c d)) axes one
      (opposite_zero (dot c (negative (cross c d))) (dot c (cross c d)) (dot_negative c (cross c d)) (dot_cross_left c d))
      (opposite_zero (dot (negative (cross c d)) d) (dot (cross c d) d) (negative_dot (cross c d) d) (dot_comm (cross c d) d ∙ dot_cross_right c d))
      (subst (λ z. pos 0 <ℤ z) (ring (values (c ∷ d ∷ []) []) (dotE (crossE v0 v1) (crossE v0 v1)) (dotE (negativeE (crossE v0 v1)) (negativeE (crossE v0 v1))) tt) square)

  front_tip : IsTip planes d c front.v
  front_tip = tip planes d c front.v one front.corner

  rear_tip : IsTip planes d c rear.v
  rear_tip = tip planes d c rear.v one rear.corner

  low_side : dot (cross c d) rear.v <ℤ pos 0
  low_side = opposite_negative_back (dot (negative (cross c d)) rear.v) (dot (cross c d) rear.v) (negative_dot (cross c d) rear.v) rear.side

  -- one of the two is each end
  either_end : (w : V3) → IsEnd planes (signs_of planes d) w → (w ≡ front.v) ⊎ (w ≡ rear.v)
  either_end w end =
      let tw = tip planes d c w one (end_corner planes d w apart end) in
      by_lt_z {P = (w ≡ front.v) ⊎ (w ≡ rear.v)} (pos 0) (dot (cross c d) w)
      (λ high. inl (same_tip planes d c axes one some_c w front.v tw front_tip high front.side))
      (λ not_high. by_lt_z {P = (w ≡ front.v) ⊎ (w ≡ rear.v)} (dot (cross c d) w) (pos 0)
      (λ low. inr (same_tip_low planes d c axes one some_c w rear.v tw rear_tip low low_side))
      (λ not_low. absurd (tip_aside planes d c axes one some_c w tw (zero_from_bounds_down (dot (cross c d) w) not_high not_low))))

  -- the sum of the two lies on the edge
  sum_on : signs_of planes (plus front.v rear.v) ≡ signs_of planes d
  sum_on =
      let bu = border_towards planes d front.v front.corner.towards in
      let bv = border_towards planes d rear.v rear.corner.towards in
      sum_covers planes front.v rear.v (signs_of planes d)
      (covers_all planes front.v rear.v d (λ g g_in. at g g_in (one.only g g_in) (border_at planes front.v d bu g g_in) (border_at planes rear.v d bv g g_in)))
      bu bv
    where
      at : (g : V3) → Contains planes g → (g ≡ c) ⊎ (dot g d ≢ pos 0) → (sign (dot g front.v) ≡ sign (dot g d)) ⊎ (sign (dot g front.v) ≡ Zero) → (sign (dot g rear.v) ≡ sign (dot g d)) ⊎ (sign (dot g rear.v) ≡ Zero)
          → (sign (dot g front.v) ≡ sign (dot g d)) ⊎ (sign (dot g rear.v) ≡ sign (dot g d))
      at g g_in place (inl p) q = inl p
      at g g_in place (inr z) (inl q) = inr q
      at g g_in (inl e) (inr z) (inr y) = inl (ap sign (ap (λ v. dot v front.v) e ∙ front_tip.on_c) ∙ sym (ap sign (ap (λ v. dot v d) e ∙ one.on)))
      at g g_in (inr off) (inr z) (inr y) = absurd (not_both planes d c axes one some_c front.v rear.v g front_tip rear_tip front.side low_side off
          (zero_sign (dot g front.v) z) (zero_sign (dot g rear.v) y))

  -- two vectors that are all ends, in this order, represent the edge by their sum
  sum_of : (u v : V3) → vector_cmp u v ≡ Less → IsEnd planes (signs_of planes d) u → IsEnd planes (signs_of planes d) v → ((w : V3) → IsEnd planes (signs_of planes d) w → (w ≡ u) ⊎ (w ≡ v))
      → (e : V3) × IsEdgeSum planes (signs_of planes d) e
  sum_of u v less eu ev all = (plus u v, record { u = u; v = v; ends = pair_lists (IsEnd planes (signs_of planes d)) u v less eu ev all; is = refl })

  -- the edge has a representative
  has_sum : (e : V3) × IsEdgeSum planes (signs_of planes d) e
  has_sum = by_order (vector_cmp front.v rear.v) refl
    where
      different : front.v ≡ rear.v → ⊥
      different e = negative_nonneg_clash (dot (cross c d) rear.v) low_side (subst (λ v. pos 0 ≤ℤ dot (cross c d) v) e (positive_nonneg (dot (cross c d) front.v) front.side))

      by_order : (o : Ordering) → vector_cmp front.v rear.v ≡ o → (e : V3) × IsEdgeSum planes (signs_of planes d) e
      by_order Less p = sum_of front.v rear.v p (corner_end planes d front.v front.corner) (corner_end planes d rear.v rear.corner) either_end
      by_order Equal p = absurd (different (vector_exact front.v rear.v p))
      by_order Greater p =
          sum_of rear.v front.v (vector_total.antisymm rear.v front.v ∙ ap ordering_reverse p) (corner_end planes d rear.v rear.corner) (corner_end planes d front.v front.corner)
          (λ w end. ⊎_elim (λ e. inr e) (λ e. inl e) (either_end w end))

  -- and any representative lies on the edge
  sum_in : (e : V3) → IsEdgeSum planes (signs_of planes d) e → signs_of planes e ≡ signs_of planes d
  unfolding IsStrictlySortedBy
  sum_in e s = ap (signs_of planes) s.is ∙ go (either_end s.u (ends.each s.u (0, omega arith, refl))) (either_end s.v (ends.each s.v (1, omega arith, refl)))
    where
      ends : Lists vector_cmp (IsEnd planes (signs_of planes d)) (s.u ∷ s.v ∷ [])
      ends = s.ends

      apart_ends : s.u ≡ s.v → ⊥
      apart_ends p = vector_not_below_itself s.v (subst (λ z. vector_cmp z s.v ≡ Less) p ends.ascending.0.0)

      go : (s.u ≡ front.v) ⊎ (s.u ≡ rear.v) → (s.v ≡ front.v) ⊎ (s.v ≡ rear.v) → signs_of planes (plus s.u s.v) ≡ signs_of planes d
      go (inl p) (inl q) = absurd (apart_ends (p ∙ sym q))
      go (inr p) (inr q) = absurd (apart_ends (p ∙ sym q))
      go (inl p) (inr q) = (λ i. signs_of planes (plus (p i) (q i))) ∙ sum_on
      go (inr p) (inl q) = (λ i. signs_of planes (plus (p i) (q i))) ∙ ap (signs_of planes) (plus_comm rear.v front.v) ∙ sum_on

-- ---- the law

module _ (planes : List V3) (s : List Sign) (axes : HoldsAxes planes) (apart : NoneParallel planes) (some : (g : V3) → Contains planes g → g ≢ origin) (cell : IsCell planes s) (edge : kind_of s ≡ Edge) where
  at_edge : (c : V3) × IsOnOne planes cell.d c
  at_edge =
      let (c, c_in, on, only) = on_one planes cell.d (ap zeros cell.is ∙ edge_zeros s edge) in
      (c, record { some = cell.nonzero; c_in = c_in; on = on; only = only })

  pub edge_has_sum : (d : V3) × IsEdgeSum planes s d
  edge_has_sum = let (c, one) = at_edge in subst (λ t. (d : V3) × IsEdgeSum planes t d) cell.is (has_sum planes cell.d c axes apart one (some c one.c_in))

  pub edge_sum_in : (e : V3) → IsEdgeSum planes s e → signs_of planes e ≡ s
  edge_sum_in e sum = let (c, one) = at_edge in sum_in planes cell.d c axes apart one (some c one.c_in) e (subst (λ t. IsEdgeSum planes t e) (sym cell.is) sum) ∙ cell.is
