-- An edge has two end vertices, and their sum lies on the edge.
use Rattle.std.proofs.Common.{◌≡◌, ◌≢◌, ℕ, suc, ◌≤◌, get_or, refl, sym, ap, subst, ◌∙◌, arith, ℤ, pos, negsuc, neg_ℤ, ◌+ℤ◌, ◌-ℤ◌, ◌*ℤ◌, ◌≤ℤ◌, ◌<ℤ◌, unsigned_abs, ◌⊎◌, inl, inr, ⊎_elim, List, [], ◌∷◌, All, Contains}
use Rattle.std.specs.Prelude.{sum_by}
use Rattle.std.proofs.lemmas.List.Sums.{get_or-le-sum_by}
use Rattle.std.proofs.lemmas.Int.{ints, by_lt_z}
use Rattle.std.proofs.lemmas.List.Elements.{All-contains}
use Rattle.staat_vec.specs.declared.vector.V3.{V3}
use Rattle.staat_vec.specs.Vectors.{dot, cross, plus, minus, times, negative, origin}
use Rattle.staat_vec.specs.Primitives.{IsPrimitive, primitive}
use Rattle.staat_vec.proofs.Ring.{Ex, at, num, ◌⊕◌, ◌⊖◌, ◌⊗◌, opp, ring, ring_by, from_zero}
use Rattle.staat_vec.proofs.VecRing.{VEx, crossE, cross_self, dotE, dot_scale, minusE, negativeE, negative_dot, originE, plusE, ring3, same_vector, scale, timesE, v0, v1, v2, values}
use Rattle.staat_vec.proofs.Order.{as_positive, nonneg_is, nonneg_mul, pos_mul, positive_is, positive_nonneg}
use Rattle.staat_vec.proofs.Primitives.{IsPrimitive-some, primitive-is, same_primitive}
use Rattle.staat_model.specs.Cones.{IsAbove}
use Rattle.staat_model.proofs.Members.{All-from_members}
use Rattle.staat_model.proofs.Edge.{edge_below}
use Rattle.staat_model.proofs.CornerLemmas.{above_primitive, ahead_primitive, axes_span}
use Rattle.staat_model.proofs.Corners.{Conditions, conditions, have_axes, is_corner, HoldsAxes, same_back, same_zero, IsOnBoth, IsSame, IsTowards, IsCornerTowards, on_both}
use Rattle.staat_vec.proofs.Integers.{mixed_product, mul-comm_ℤ, negative_nonneg_clash, negative_nonpositive, opposite_negative, other_factor_zero, product_zero, products_zero, two_negatives, positive_nonpositive_mul, zero_or, opposite_nonpositive_back, positive_from_nonneg, positive_nonpositive_clash, opposite_positive_back, zero_from_bounds, zero_nonneg, zero_nonpositive}
use Rattle.staat_vec.proofs.VectorLaws.{dot_along, some_square, unscaled}

-- ---- far enough along d

-- d is strictly on e's positive side, or d and t both lie on e
abbrev Ahead : V3 → V3 → V3 → Type 0
Ahead d t e = ((dot e d ≡ pos 0) × (dot e t ≡ pos 0)) ⊎ (pos 0 <ℤ dot e d)

reach : (a q : ℤ) (l : ℕ) → unsigned_abs a ≤ l → pos 0 <ℤ q → pos 0 ≤ℤ (pos l *ℤ q +ℤ a)
reach (pos n) (pos (suc q)) l h g = omega (arith, ints)
reach (negsuc n) (pos (suc q)) l h g = omega (arith, ints)
reach a q l h g = absurd g.lt

zero_reach : (a q : ℤ) (l : ℕ) → q ≡ pos 0 → a ≡ pos 0 → pos 0 ≤ℤ (pos l *ℤ q +ℤ a)
zero_reach a q l e f = subst (λ q. pos 0 ≤ℤ (pos l *ℤ q +ℤ a)) (sym e) (subst (λ a. pos 0 ≤ℤ (pos l *ℤ pos 0 +ℤ a)) (sym f) (omega (arith, ints)))

far : (d t : V3) (cs : List V3) → All (Ahead d t) cs → (k : ℕ) × IsAbove (plus (times k d) t) cs
far d t cs ahead = (k, λ i x lt. at (get_or cs i x) (ahead i x lt) (get_or-le-sum_by (λ e. unsigned_abs (dot e t)) cs i x lt))
  where
    k : ℕ
    k = sum_by (λ e. unsigned_abs (dot e t)) cs

    at : (e : V3) → ((dot e d ≡ pos 0) × (dot e t ≡ pos 0)) ⊎ (pos 0 <ℤ dot e d) → unsigned_abs (dot e t) ≤ k → pos 0 ≤ℤ dot e (plus (times k d) t)
    at e (inl (p, q)) le = nonneg_is (dot e (plus (times k d) t)) (pos k *ℤ dot e d +ℤ dot e t) (dot_along e d t k) (zero_reach (dot e t) (dot e d) k p q)
    at e (inr p) le = nonneg_is (dot e (plus (times k d) t)) (pos k *ℤ dot e d +ℤ dot e t) (dot_along e d t k) (reach (dot e t) (dot e d) k le p)

-- what t has of the vector that is far along d
back_low : (t d : V3) (l : ℕ) → dot t d ≡ pos 0 → pos 0 <ℤ dot t t → dot (negative t) (plus (times l d) t) <ℤ pos 0
back_low t d l e p = opposite_negative (dot (negative t) (plus (times l d) t)) (dot t t) (is ∙ ap (λ z. neg_ℤ (pos l *ℤ z +ℤ dot t t)) e ∙ none l (dot t t)) p
  where
    is : dot (negative t) (plus (times l d) t) ≡ neg_ℤ (pos l *ℤ dot t d +ℤ dot t t)
    is = ring (values (t ∷ d ∷ []) (pos l ∷ [])) (dotE (negativeE v0) (plusE (timesE (at 6) v1) v0)) (opp (at 6 ⊗ dotE v0 v1 ⊕ dotE v0 v0)) tt

    none : (l : ℕ) (q : ℤ) → neg_ℤ (pos l *ℤ pos 0 +ℤ q) ≡ neg_ℤ q
    none l q = ring (pos l ∷ q ∷ []) (opp (at 0 ⊗ num (pos 0) ⊕ at 1)) (opp (at 1)) tt

-- d lies on the plane c of the list, and on no other
pub record IsOnOne (planes : List V3) (d c : V3) : Type 0 where
  pub some : d ≢ origin
  pub c_in : Contains planes c
  pub on : dot c d ≡ pos 0
  pub only : (g : V3) → Contains planes g → (g ≡ c) ⊎ (dot g d ≢ pos 0)

-- a vertex on the border of d's cell, on t's side of d
pub record IsAhead (planes : List V3) (d t : V3) : Type 0 where
  pub v : V3
  pub corner : IsCornerTowards planes d v
  pub side : pos 0 <ℤ dot t v

pub ahead : (planes : List V3) (d c t : V3) → HoldsAxes planes → IsOnOne planes d c → dot c t ≡ pos 0 → dot t d ≡ pos 0 → pos 0 <ℤ dot t t → IsAhead planes d t
ahead planes d c t axes one in_plane across some =
    let cs = conditions d planes in
    let each : All (Ahead d t) cs.cs = All-from_members (Ahead d t) cs.cs (λ e e_in. condition cs e e_in) in
    let (k, above) = far d t cs.cs each in
    let x = plus (times k d) t in
    let (g, h, (g_in, h_in, apart, up), low) = edge_below cs.cs x (negative t) (axes_span cs.cs (have_axes d planes cs axes)) above (back_low t d k across some) in
    let f = cross g h in
    let p = primitive-is f apart in
    let v = primitive f in record {
      v = v;
      corner = is_corner d v planes cs (record { g = g; h = h; g_in = g_in; h_in = h_in; independent = apart; is = refl }) (above_primitive cs.cs f v p up);
      side = ahead_primitive t f apart (opposite_positive_back (dot (negative t) f) (dot t f) (negative_dot t f) low);
    }
  where
    condition : (cs : Conditions d planes) (e : V3) → Contains cs.cs e → ((dot e d ≡ pos 0) × (dot e t ≡ pos 0)) ⊎ (pos 0 <ℤ dot e d)
    condition cs e e_in =
        let (g, g_in, same) = cs.only e e_in in
        ⊎_elim
        (λ is. let at_c : IsSame e c = subst (λ z. IsSame e z) is same in inl (same_zero e c d at_c one.on, same_zero e c t at_c in_plane))
        (λ off. inr (positive_from_nonneg (dot e d) (All-contains (λ e. pos 0 ≤ℤ dot e d) cs.cs e cs.above e_in) (λ z. off (same_back e g d same z))))
        (one.only g g_in)

-- ---- the vectors of one plane

-- from the plane's normal c, d and their cross product t: (t.t) p is a multiple of d, where p is at right angles to c and t
along_d : (c d p : V3) → dot c d ≡ pos 0 → dot c p ≡ pos 0 → dot (cross c d) p ≡ pos 0 → scale (dot (cross c d) (cross c d)) p ≡ scale (dot c c *ℤ dot d p) d
along_d c d p e f g = exact ∙ (λ i. combined (e i) (f i) (g i)) ∙ last
  where
    t : V3
    t = cross c d

    combined : ℤ → ℤ → ℤ → V3
    combined x y z = plus (plus (scale (dot d d *ℤ y -ℤ x *ℤ dot d p) c) (scale (dot c c *ℤ dot d p -ℤ x *ℤ y) d)) (scale z t)

    exact : scale (dot t t) p ≡ combined (dot c d) (dot c p) (dot t p)
    exact =
        let u : VEx = crossE v0 v1 in
        ring3 (values (c ∷ d ∷ p ∷ []) []) (timesE (dotE u u) v2)
        (plusE (plusE (timesE (dotE v1 v1 ⊗ dotE v0 v2 ⊖ dotE v0 v1 ⊗ dotE v1 v2) v0) (timesE (dotE v0 v0 ⊗ dotE v1 v2 ⊖ dotE v0 v1 ⊗ dotE v0 v2) v1)) (timesE (dotE u v2) u)) (tt, tt, tt)

    last : combined (pos 0) (pos 0) (pos 0) ≡ scale (dot c c *ℤ dot d p) d
    last =
        let o : Ex = num (pos 0) in
        ring3 (values (c ∷ d ∷ t ∷ []) (dot d d ∷ dot d p ∷ dot c c ∷ []))
        (plusE (plusE (timesE (at 9 ⊗ o ⊖ o ⊗ at 10) v0) (timesE (at 11 ⊗ at 10 ⊖ o ⊗ o) v1)) (timesE o v2)) (timesE (at 11 ⊗ at 10) v1) (tt, tt, tt)

-- along another normal m: (t.t) (m.p) is a multiple of m.d
along_normal : (c d p m : V3) → dot c d ≡ pos 0 → dot c p ≡ pos 0 → dot (cross c d) p ≡ pos 0 → dot (cross c d) (cross c d) *ℤ dot m p ≡ (dot c c *ℤ dot d p) *ℤ dot m d
along_normal c d p m e f g = sym (dot_scale (dot (cross c d) (cross c d)) m p) ∙ ap (dot m) (along_d c d p e f g) ∙ dot_scale (dot c c *ℤ dot d p) m d

-- p is zero, where it has no part along d
none_along : (c d p : V3) → dot c d ≡ pos 0 → dot c p ≡ pos 0 → dot (cross c d) p ≡ pos 0 → pos 0 <ℤ dot (cross c d) (cross c d) → dot c c *ℤ dot d p ≡ pos 0 → p ≡ origin
none_along c d p e f g some none =
    unscaled (dot (cross c d) (cross c d)) p some
    (along_d c d p e f g ∙ ap (λ k. scale k d) none ∙ ring3 (values (d ∷ []) []) (timesE (num (pos 0)) v0) originE (tt, tt, tt))

-- a positive multiple of a number on q's side of 0 is a multiple of q with a factor of at least 0
factor_nonneg : (k b q x : ℤ) → pos 0 <ℤ k → q ≢ pos 0 → (pos 0 ≤ℤ q → pos 0 ≤ℤ x) → (q ≤ℤ pos 0 → x ≤ℤ pos 0) → k *ℤ x ≡ b *ℤ q → pos 0 ≤ℤ b
factor_nonneg k b q x h n up down e =
    by_lt_z {P = pos 0 ≤ℤ b} b (pos 0)
    (λ low. absurd (by_lt_z {P = ⊥} q (pos 0)
    (λ neg. positive_nonpositive_clash (b *ℤ q) (two_negatives b q low neg) (subst (λ z. z ≤ℤ pos 0) e (positive_nonpositive_mul k x h (down (negative_nonpositive q neg)))))
    (λ nonneg. negative_nonneg_clash (b *ℤ q) (mixed_product b q low (positive_from_nonneg q nonneg n)) (nonneg_is (b *ℤ q) (k *ℤ x) (sym e) (nonneg_mul k x (positive_nonneg k h) (up nonneg))))))
    (λ nonneg. nonneg)

-- ---- the ends of an edge

-- a primitive vector on the plane c and on another plane m of the list, on no other side of any than d
pub record IsTip (planes : List V3) (d c w : V3) : Type 0 where
  pub primitive : IsPrimitive w
  pub on_c : dot c w ≡ pos 0
  pub m : V3
  pub m_in : Contains planes m
  pub off : dot m d ≢ pos 0
  pub on_m : dot m w ≡ pos 0
  pub towards : (g : V3) → Contains planes g → IsTowards d w g

pub tip : (planes : List V3) (d c w : V3) → IsOnOne planes d c → IsCornerTowards planes d w → IsTip planes d c w
tip planes d c w one corner = elim (one.only corner.g corner.g_in) [
  | inr off ↦ at corner.g corner.g_in off crossing.on_g
  | inl e ↦ elim (one.only corner.h corner.h_in) [
    | inr off ↦ at corner.h corner.h_in off crossing.on_h
    | inl f ↦ absurd (corner.independent ((λ i. cross (e i) (f i)) ∙ cross_self c))
  ]
]
  where
    flat_c : dot c w ≡ pos 0
    flat_c = let t = corner.towards c one.c_in in zero_from_bounds (dot c w) (t.up (zero_nonneg (dot c d) one.on)) (t.down (zero_nonpositive (dot c d) one.on))

    crossing : IsOnBoth w corner.g corner.h
    crossing = on_both w corner.g corner.h corner.independent corner.is

    at : (m : V3) → Contains planes m → dot m d ≢ pos 0 → dot m w ≡ pos 0 → IsTip planes d c w
    at m m_in off on = record {
      primitive = crossing.primitive;
      on_c = flat_c;
      m = m;
      m_in = m_in;
      off = off;
      on_m = on;
      towards = corner.towards;
    }

pub cross_positive : (c d : V3) → c ≢ origin → d ≢ origin → dot c d ≡ pos 0 → pos 0 <ℤ dot (cross c d) (cross c d)
cross_positive c d some_c some_d on =
    positive_is (dot (cross c d) (cross c d)) (dot c c *ℤ dot d d)
    (ring_by (values (c ∷ d ∷ []) []) (dotE (crossE v0 v1) (crossE v0 v1)) (dotE v0 v0 ⊗ dotE v1 v1) (opp (dotE v0 v1)) (dotE v0 v1) (num (pos 0)) on tt)
    (pos_mul (dot c c) (dot d d) (some_square c some_c) (some_square d some_d))

-- two vectors on the plane of c, of which the multiples by b and a reach as far along the cross product of c and d
record AreLevel (c d : V3) (a b : ℤ) (u w : V3) : Type 0 where
  u_on : dot c u ≡ pos 0
  w_on : dot c w ≡ pos 0
  level : a *ℤ dot (cross c d) w ≡ b *ℤ dot (cross c d) u

module _ (c d : V3) (on : dot c d ≡ pos 0) (some : pos 0 <ℤ dot (cross c d) (cross c d)) (a b : ℤ) (u w : V3) (l : AreLevel c d a b u w) where
  difference : V3
  difference = minus (scale a w) (scale b u)

  dot_difference : (m : V3) → dot m difference ≡ a *ℤ dot m w -ℤ b *ℤ dot m u
  unfolding difference
  dot_difference m = ring (values (m ∷ u ∷ w ∷ []) (a ∷ b ∷ [])) (dotE v0 (minusE (timesE (at 9) v2) (timesE (at 10) v1))) (at 9 ⊗ dotE v0 v2 ⊖ at 10 ⊗ dotE v0 v1) tt

  -- how much of the difference lies along d
  share : ℤ
  share = dot c c *ℤ dot d difference

  on_c : dot c difference ≡ pos 0
  on_c = dot_difference c ∙ products_zero a b (dot c w) (dot c u) l.w_on l.u_on

  across_t : dot (cross c d) difference ≡ pos 0
  across_t = dot_difference (cross c d) ∙ ap (λ z. z -ℤ b *ℤ dot (cross c d) u) l.level ∙ ring ((b *ℤ dot (cross c d) u) ∷ []) (at 0 ⊖ at 0) (num (pos 0)) tt

  -- at another normal m
  share_at : (m : V3) → dot (cross c d) (cross c d) *ℤ (a *ℤ dot m w -ℤ b *ℤ dot m u) ≡ share *ℤ dot m d
  unfolding share
  share_at m = ap (λ z. dot (cross c d) (cross c d) *ℤ z) (sym (dot_difference m)) ∙ along_normal c d difference m on on_c across_t

  none_shared : share ≡ pos 0 → scale a w ≡ scale b u
  unfolding share difference
  none_shared none =
      let e = none_along c d difference on on_c across_t some none in
      same_vector (scale a w) (scale b u) (from_zero (a *ℤ w.x) (b *ℤ u.x) (ap (λ v. v.x) e)) (from_zero (a *ℤ w.y) (b *ℤ u.y) (ap (λ v. v.y) e)) (from_zero (a *ℤ w.z) (b *ℤ u.z) (ap (λ v. v.z) e))

left_only : (k a x b y r : ℤ) → k *ℤ (a *ℤ x -ℤ b *ℤ y) ≡ r → y ≡ pos 0 → (k *ℤ a) *ℤ x ≡ r
left_only k a x b y r e z = ring (k ∷ a ∷ x ∷ b ∷ []) ((at 0 ⊗ at 1) ⊗ at 2) (at 0 ⊗ (at 1 ⊗ at 2 ⊖ at 3 ⊗ num (pos 0))) tt ∙ ap (λ y. k *ℤ (a *ℤ x -ℤ b *ℤ y)) (sym z) ∙ e

right_only : (k a x b y s q : ℤ) → k *ℤ (a *ℤ x -ℤ b *ℤ y) ≡ s *ℤ q → x ≡ pos 0 → (k *ℤ b) *ℤ y ≡ neg_ℤ s *ℤ q
right_only k a x b y s q e z =
    ring_by (k ∷ a ∷ x ∷ b ∷ y ∷ []) ((at 0 ⊗ at 3) ⊗ at 4) (opp (at 0 ⊗ (at 1 ⊗ at 2 ⊖ at 3 ⊗ at 4))) (at 0 ⊗ at 1) (at 2) (num (pos 0)) z tt
    ∙ ap neg_ℤ e ∙ ring (s ∷ q ∷ []) (opp (at 0 ⊗ at 1)) (opp (at 0) ⊗ at 1) tt

module _ (planes : List V3) (d c : V3) (axes : HoldsAxes planes) (one : IsOnOne planes d c) (some_c : c ≢ origin) where
  big_positive : pos 0 <ℤ dot (cross c d) (cross c d)
  big_positive = cross_positive c d some_c one.some one.on

  -- ends of which positive multiples are level are one
  level_tips : (a b : ℤ) (u w : V3) → IsTip planes d c u → IsTip planes d c w → pos 0 <ℤ a → pos 0 <ℤ b → a *ℤ dot (cross c d) w ≡ b *ℤ dot (cross c d) u → u ≡ w
  level_tips a b u w tu tw pa pb e =
      let big = dot (cross c d) (cross c d) in
      let l : AreLevel c d a b u w = record { u_on = tu.on_c; w_on = tw.on_c; level = e } in
      let s = share c d one.on big_positive a b u w l in
      let at = share_at c d one.on big_positive a b u w l in
      let w_at = tw.towards tu.m tu.m_in in
      let u_at = tu.towards tw.m tw.m_in in
      let up : pos 0 ≤ℤ s = factor_nonneg (big *ℤ a) s (dot tu.m d) (dot tu.m w) (pos_mul big a big_positive pa) tu.off w_at.up w_at.down
      (left_only big a (dot tu.m w) b (dot tu.m u) (s *ℤ dot tu.m d) (at tu.m) tu.on_m) in
      let down : pos 0 ≤ℤ neg_ℤ s = factor_nonneg (big *ℤ b) (neg_ℤ s) (dot tw.m d) (dot tw.m u) (pos_mul big b big_positive pb) tw.off u_at.up u_at.down
      (right_only big a (dot tw.m w) b (dot tw.m u) s (dot tw.m d) (at tw.m) tw.on_m) in
      let same = none_shared c d one.on big_positive a b u w l (zero_from_bounds s up (opposite_nonpositive_back (neg_ℤ s) s refl down)) in
      let m = as_positive a pa in
      let n = as_positive b pb in
      sym (same_primitive m.0 n.0 w u m.1 n.1 (ap (λ k. scale k w) (sym m.2) ∙ same ∙ ap (λ k. scale k u) n.2) tw.primitive tu.primitive)

  -- on each side of d there is one end
  pub same_tip : (u w : V3) → IsTip planes d c u → IsTip planes d c w → pos 0 <ℤ dot (cross c d) u → pos 0 <ℤ dot (cross c d) w → u ≡ w
  same_tip u w tu tw pu pw = level_tips (dot (cross c d) u) (dot (cross c d) w) u w tu tw pu pw (mul-comm_ℤ (dot (cross c d) u) (dot (cross c d) w))

  pub same_tip_low : (u w : V3) → IsTip planes d c u → IsTip planes d c w → dot (cross c d) u <ℤ pos 0 → dot (cross c d) w <ℤ pos 0 → u ≡ w
  same_tip_low u w tu tw nu nw =
      let a = dot (cross c d) u in
      let b = dot (cross c d) w in
      level_tips (neg_ℤ a) (neg_ℤ b) u w tu tw (omega (arith, ints, nu)) (omega (arith, ints, nw)) (ring (a ∷ b ∷ []) (opp (at 0) ⊗ at 1) (opp (at 1) ⊗ at 0) tt)

  -- no end lies along d
  pub tip_aside : (w : V3) → IsTip planes d c w → dot (cross c d) w ≢ pos 0
  tip_aside w tw e =
      let along = dot c c *ℤ dot d w in
      let whole = along_normal c d w tw.m one.on tw.on_c e in
      let none : dot tw.m d *ℤ along ≡ pos 0 = mul-comm_ℤ (dot tw.m d) along ∙ sym whole ∙ product_zero (dot (cross c d) (cross c d)) (dot tw.m w) tw.on_m in
      IsPrimitive-some w tw.primitive (none_along c d w one.on tw.on_c e big_positive (other_factor_zero (dot tw.m d) along tw.off none))

  -- two ends on different sides of d do not both lie on another plane
  pub not_both : (u v g : V3) → IsTip planes d c u → IsTip planes d c v → pos 0 <ℤ dot (cross c d) u → dot (cross c d) v <ℤ pos 0 → dot g d ≢ pos 0 → dot g u ≡ pos 0 → dot g v ≡ pos 0 → ⊥
  not_both u v g tu tv pu nv off eu ev =
      let a = dot (cross c d) u in
      let b = dot (cross c d) v in
      let l : AreLevel c d a b u v = record { u_on = tu.on_c; w_on = tv.on_c; level = mul-comm_ℤ a b } in
      let s = share c d one.on big_positive a b u v l in
      let flat : dot g d *ℤ s ≡ pos 0 = mul-comm_ℤ (dot g d) s ∙ sym (share_at c d one.on big_positive a b u v l g)
      ∙ product_zero (dot (cross c d) (cross c d)) (a *ℤ dot g v -ℤ b *ℤ dot g u) (products_zero a b (dot g v) (dot g u) ev eu) in
      let same = none_shared c d one.on big_positive a b u v l (other_factor_zero (dot g d) s off flat) in
      IsPrimitive-some u tu.primitive (axes_span planes (record { x = inl axes.x; y = inl axes.y; z = inl axes.z }) u
      (All-from_members (λ axis. dot axis u ≡ pos 0) planes (λ axis axis_in. squeeze a b axis pu nv (tu.towards axis axis_in) (tv.towards axis axis_in)
      (sym (dot_scale a axis v) ∙ ap (dot axis) same ∙ dot_scale b axis u))))
    where
      -- a positive and a negative multiple of two numbers on one side of 0 are not equal
      squeeze : (a b : ℤ) (axis : V3) → pos 0 <ℤ a → b <ℤ pos 0 → IsTowards d u axis → IsTowards d v axis → a *ℤ dot axis v ≡ b *ℤ dot axis u → dot axis u ≡ pos 0
      squeeze a b axis pa nb x_at y_at e = ⊎_elim (λ zero'. zero') (λ n. absurd (negative_nonneg_clash b nb (factor_nonneg a b (dot axis u) (dot axis v) pa n
          (λ h. by_lt_z {P = pos 0 ≤ℤ dot axis v} (dot axis d) (pos 0) (λ low. absurd (n (zero_from_bounds (dot axis u) h (x_at.down (negative_nonpositive (dot axis d) low))))) y_at.up)
          (λ h. by_lt_z {P = dot axis v ≤ℤ pos 0} (pos 0) (dot axis d) (λ high. absurd (n (zero_from_bounds (dot axis u) (x_at.up (positive_nonneg (dot axis d) high)) h))) y_at.down)
          e))) (zero_or (dot axis u))
