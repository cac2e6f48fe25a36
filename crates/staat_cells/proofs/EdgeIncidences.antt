-- The cells beside a vertex on a plane through it are the edges that end there, and those beside an edge are open.
use Rattle.std.proofs.Common.{◌≡◌, ◌≢◌, ℕ, zero, suc, refl, sym, ap, subst, ◌∙◌, ℤ, pos, negsuc, neg_ℤ, ◌-ℤ◌, ◌*ℤ◌}
use Rattle.std.proofs.Common.{◌⊎◌, inl, inr, ⊎_elim, List, [], ◌∷◌, Contains, ◌<ℤ◌}
use Rattle.staat_vec.specs.declared.vector.V3.{V3}
use Rattle.staat_vec.specs.declared.vector.Sign.{Sign}
use Rattle.staat_vec.specs.declared.vector.Sign.TheVariants.{Neg, Zero, Pos}
use Rattle.staat_vec.specs.Vectors.{dot, cross, minus, negative, origin, sign}
use Rattle.staat_vec.proofs.Ring.{at, num, ◌⊖◌, ◌⊗◌, opp, ring, ring_by, ring_by_two, zero-mul_ℤ}
use Rattle.staat_vec.proofs.VecRing.{dotE, crossE, minusE, timesE, values, v0, v1, v2, scale, cross_self, dot_scale}
use Rattle.staat_vec.proofs.VecRing.{dot_negative, dot_cross_left}
use Rattle.staat_model.specs.declared.tree.Kind.TheVariants.{Edge, Open}
use Rattle.staat_model.specs.Cells.{signs_of, kind_of, IsBorder, IsCell}
use Rattle.staat_model.proofs.CellLemmas.{zeros, edge_zeros, kind_edge, off_all, zeros_off, open_zeros}
use Rattle.staat_model.proofs.Corners.{IsSame}
use Rattle.staat_model.proofs.EndLemmas.{on_one}
use Rattle.staat_model.proofs.FacetLemmas.{along}
use Rattle.staat_model.proofs.PlaneLemmas.{NoneParallel}
use Rattle.staat_cells.specs.Beside.{then_sign, beside, IsBeside, filled}
use Rattle.staat_cells.specs.Stages.{IsBesideOn}
use Rattle.staat_cells.proofs.Beside.{beside_is, beside_border, border_at, at_plane, from_planes, then_border}
use Rattle.staat_cells.proofs.Zeros.{one_zero, open_kind}
use Rattle.staat_vec.proofs.Integers.{mul-zero_ℤ, other_factor_zero, opposite_zero_back, opposite_zero}
use Rattle.staat_vec.proofs.Integers.{positive_not_zero, products_zero, products_swapped, opposite_negative}
use Rattle.staat_vec.proofs.Divisors.{neg-neg}
use Rattle.staat_vec.proofs.VectorLaws.{dot_cross_about, some_square, dot_origin}
use Rattle.staat_vec.proofs.ListLaws.{map_twice}
use Rattle.staat_vec.proofs.Signs.{sign_some, sign_times, zero_sign, positive_sign, negative_sign}

-- ---- numbers

pub mul_some : (a b : ℤ) → a ≢ pos 0 → b ≢ pos 0 → a *ℤ b ≢ pos 0
mul_some a b n m e = m (other_factor_zero a b n e)

same_sign : (a b : ℕ) (x y : ℤ) → pos (suc a) *ℤ x ≡ pos (suc b) *ℤ y → sign x ≡ sign y
same_sign a b x y e = sym (sign_times a x) ∙ ap sign e ∙ sign_times b y

negsuc_neg : (b : ℕ) (y : ℤ) → negsuc b *ℤ y ≡ pos (suc b) *ℤ neg_ℤ y
negsuc_neg b y = ring_by (negsuc b ∷ pos (suc b) ∷ y ∷ []) (at 0 ⊗ at 2) (at 1 ⊗ opp (at 2)) (at 2) (at 0) (opp (at 1)) refl tt

turned_mul : (a b x y : ℤ) → a *ℤ x ≡ b *ℤ y → a *ℤ neg_ℤ x ≡ b *ℤ neg_ℤ y
turned_mul a b x y e = ring_by (a ∷ b ∷ x ∷ y ∷ []) (at 0 ⊗ opp (at 2)) (at 1 ⊗ opp (at 3)) (opp (num (pos 1))) (at 0 ⊗ at 2) (at 1 ⊗ at 3) e tt

-- numbers in one ratio have one sign, or opposite signs
ratio : (a b : ℤ) → a ≢ pos 0 → b ≢ pos 0 → ((x y : ℤ) → a *ℤ x ≡ b *ℤ y → sign x ≡ sign y) ⊎ ((x y : ℤ) → a *ℤ x ≡ b *ℤ y → sign x ≡ sign (neg_ℤ y))
ratio (pos zero) b n m = absurd (n refl)
ratio (pos (suc a)) (pos zero) n m = absurd (m refl)
ratio (pos (suc a)) (pos (suc b)) n m = inl (λ x y e. same_sign a b x y e)
ratio (pos (suc a)) (negsuc b) n m = inr (λ x y e. same_sign a b x (neg_ℤ y) (e ∙ negsuc_neg b y))
ratio (negsuc a) (pos zero) n m = absurd (m refl)
ratio (negsuc a) (pos (suc b)) n m = inr (λ x y e. same_sign a b x (neg_ℤ y) (ap (λ z. pos (suc a) *ℤ z) (sym (neg-neg x)) ∙ sym (negsuc_neg a (neg_ℤ x)) ∙ turned_mul (negsuc a) (pos (suc b)) x y e))
ratio (negsuc a) (negsuc b) n m = inl (λ x y e. same_sign a b x y (ap (λ z. pos (suc a) *ℤ z) (sym (neg-neg x)) ∙ sym (negsuc_neg a (neg_ℤ x)) ∙ turned_mul (negsuc a) (negsuc b) x y e ∙ negsuc_neg b (neg_ℤ y) ∙ ap (λ z. pos (suc b) *ℤ z) (neg-neg y)))

-- ---- vectors

same_dot : (g w f : V3) → IsSame w f → dot g w ≡ pos 0 → dot g f ≡ pos 0
same_dot g w f (inl e) h = ap (dot g) (sym e) ∙ h
same_dot g w f (inr e) h = opposite_zero_back (dot g w) (dot g f) (ap (dot g) e ∙ dot_negative g f) h

pub dot_same : (g w f : V3) → IsSame w f → dot g f ≡ pos 0 → dot g w ≡ pos 0
dot_same g w f (inl e) h = ap (dot g) e ∙ h
dot_same g w f (inr e) h = opposite_zero (dot g w) (dot g f) (ap (dot g) e ∙ dot_negative g f) h

-- two planes through v, and a third one that is not: on the plane c only planes parallel to it hold v and the crossing with m
pub off_crossing : (g c m v : V3) → dot g v ≡ pos 0 → dot c v ≡ pos 0 → dot m v ≢ pos 0 → cross g c ≢ origin → dot g (cross c m) ≢ pos 0
off_crossing g c m v on_g on_c off some e =
    let p = cross g c in
    let both : dot p p *ℤ dot m v ≡ dot v p *ℤ dot m p = sym (dot_scale (dot p p) m v) ∙ ap (dot m) (along v g c on_g on_c) ∙ dot_scale (dot v p) m p in
    mul_some (dot p p) (dot m v) (positive_not_zero (dot p p) (some_square p some)) off
    (both ∙ ap (λ z. dot v p *ℤ z) (sym (dot_cross_about g c m) ∙ e) ∙ mul-zero_ℤ (dot v p))

-- ---- what is beside a vertex on a plane is an edge

then_zero : (s t : Sign) → then_sign s t ≡ Zero → (s ≡ Zero) × (t ≡ Zero)
then_zero Neg t e = cc
then_zero Zero t e = (refl, e)
then_zero Pos t e = cc

-- beside v, the sign at a plane through v is that of w, and at another plane that of v
abbrev beside_at : V3 → V3 → V3 → Sign
beside_at v w n = then_sign (sign (dot n v)) (sign (dot n w))

pub by_sign : (s t u : Sign) → (s ≡ u) ⊎ (s ≡ Zero) → (s ≡ Zero → u ≡ t) → u ≡ then_sign s t
by_sign Zero t u h z = z refl
by_sign Neg t u h z = ⊎_elim (λ e. sym e) (λ e. cc) h
by_sign Pos t u h z = ⊎_elim (λ e. sym e) (λ e. cc) h

then_first : (s t : Sign) → s ≢ Zero → then_sign s t ≡ s
then_first Neg t n = refl
then_first Zero t n = absurd (n refl)
then_first Pos t n = refl

pub beside_edge : (planes : List V3) (v : V3) (s : List Sign) → NoneParallel planes → IsBeside planes v s → IsCell planes s × (kind_of s ≡ Edge) × IsBorder (signs_of planes v) s
beside_edge planes v s apart b =
    let (d, d_is) = beside_is planes v b.w in (
      record { d = d; nonzero = λ z. sign_some (dot b.m v) b.off (sym (at_m d d_is) ∙ ap sign (ap (dot b.m) z ∙ dot_origin b.m)); is = d_is ∙ sym b.is },
      ap kind_of b.is ∙ kind_edge (beside planes v b.w) one,
      subst (IsBorder (signs_of planes v)) (sym b.is) (beside_border planes v b.w),
    )
  where
    at_m : (d : V3) → signs_of planes d ≡ beside planes v b.w → sign (dot b.m d) ≡ sign (dot b.m v)
    at_m d e = at_plane (λ n. sign (dot n d)) (beside_at v b.w) planes b.m e b.m_in ∙ then_first (sign (dot b.m v)) (sign (dot b.m b.w)) (sign_some (dot b.m v) b.off)

    at_c : beside_at v b.w b.c ≡ Zero
    at_c = (λ i. then_sign (sign (b.on i)) (sign (dot_same b.c b.w (cross b.c b.m) b.towards (dot_cross_left b.c b.m) i)))

    off : (g : V3) → Contains planes g → cross g b.c ≢ origin → beside_at v b.w g ≢ Zero
    off g g_in some e =
        let (on_v, on_w) = then_zero (sign (dot g v)) (sign (dot g b.w)) e in
        off_crossing g b.c b.m v (zero_sign (dot g v) on_v) b.on b.off some (same_dot g b.w (cross b.c b.m) b.towards (zero_sign (dot g b.w) on_w))

    one : zeros (beside planes v b.w) ≡ 1
    one = one_zero (beside_at v b.w) planes b.c apart b.c_in at_c off

-- ---- each edge that ends at a vertex is beside it

-- two planes of the list through v that are not parallel
pub record IsCrossed (planes : List V3) (v : V3) : Type 0 where
  pub g : V3
  pub h : V3
  pub g_in : Contains planes g
  pub h_in : Contains planes h
  pub independent : cross g h ≢ origin
  pub on_g : dot g v ≡ pos 0
  pub on_h : dot h v ≡ pos 0

-- the vector on c and m that differs from a multiple of d by one of v
abbrev across : V3 → V3 → V3 → V3
across m d v = minus (scale (dot m v) d) (scale (dot m d) v)

dot_across : (g m d v : V3) → dot g (across m d v) ≡ dot m v *ℤ dot g d -ℤ dot m d *ℤ dot g v
dot_across g m d v = ring (values (g ∷ d ∷ v ∷ []) (dot m v ∷ dot m d ∷ [])) (dotE v0 (minusE (timesE (at 9) v1) (timesE (at 10) v2))) (at 9 ⊗ dotE v0 v1 ⊖ at 10 ⊗ dotE v0 v2) tt

drop_zero : (k a x b y : ℤ) → y ≡ pos 0 → (k *ℤ a) *ℤ x ≡ k *ℤ (a *ℤ x -ℤ b *ℤ y)
drop_zero k a x b y e = ring (k ∷ a ∷ x ∷ b ∷ []) ((at 0 ⊗ at 1) ⊗ at 2) (at 0 ⊗ (at 1 ⊗ at 2 ⊖ at 3 ⊗ num (pos 0))) tt ∙ ap (λ z. k *ℤ (a *ℤ x -ℤ b *ℤ z)) (sym e)

-- where m is not through v, no multiple of it is c
crossing_some : (c m v : V3) → c ≢ origin → dot c v ≡ pos 0 → dot m v ≢ pos 0 → cross c m ≢ origin
crossing_some c m v some on off e =
    mul_some (dot c c) (dot m v) (positive_not_zero (dot c c) (some_square c some)) off
    (ring_by_two (values (c ∷ m ∷ v ∷ []) []) (dotE v0 v0 ⊗ dotE v1 v2) (num (pos 0)) (dotE v0 v1) (dotE v0 v2) (num (pos 0)) (num (pos 1)) (dotE (crossE v0 v1) (crossE v0 v2)) (num (pos 0)) on (dot_origin_left (cross c m) (cross c v) e) tt)
  where
    dot_origin_left : (p q : V3) → p ≡ origin → dot p q ≡ pos 0
    dot_origin_left p q e = ap (λ z. dot z q) e ∙ ring (values (q ∷ []) []) (dotE (record { x = num (pos 0); y = num (pos 0); z = num (pos 0) }) v0) (num (pos 0)) tt

module _ (planes : List V3) (v d c m : V3) (some_c : c ≢ origin) (on_d : dot c d ≡ pos 0) (only : (g : V3) → Contains planes g → (g ≡ c) ⊎ (dot g d ≢ pos 0))
    (on_v : dot c v ≡ pos 0) (off : dot m v ≢ pos 0) (crossed : IsCrossed planes v) (border : IsBorder (signs_of planes v) (signs_of planes d)) where
  -- how a plane through v has d and the crossing of c and m
  in_ratio : (g : V3) → dot g v ≡ pos 0 → (dot (cross c m) (cross c m) *ℤ dot m v) *ℤ dot g d ≡ dot (across m d v) (cross c m) *ℤ dot g (cross c m)
  in_ratio g on =
      let w = cross c m in
      let x = across m d v in
      drop_zero (dot w w) (dot m v) (dot g d) (dot m d) (dot g v) on
      ∙ ap (λ z. dot w w *ℤ z) (sym (dot_across g m d v))
      ∙ sym (dot_scale (dot w w) g x)
      ∙ ap (dot g) (along x c m (dot_across c m d v ∙ products_zero (dot m v) (dot m d) (dot c d) (dot c v) on_d on_v) (dot_across m m d v ∙ products_swapped (dot m v) (dot m d)))
      ∙ dot_scale (dot x w) g w

  left_some : dot (cross c m) (cross c m) *ℤ dot m v ≢ pos 0
  left_some = mul_some (dot (cross c m) (cross c m)) (dot m v) (positive_not_zero (dot (cross c m) (cross c m)) (some_square (cross c m) (crossing_some c m v some_c on_v off))) off

  right_some : dot (across m d v) (cross c m) ≢ pos 0
  right_some e = crossed.independent ((λ i. cross (same crossed.g crossed.g_in crossed.on_g i) (same crossed.h crossed.h_in crossed.on_h i)) ∙ cross_self c)
    where
      same : (g : V3) → Contains planes g → dot g v ≡ pos 0 → g ≡ c
      same g g_in on = ⊎_elim (λ h. h) (λ n. absurd (n (other_factor_zero (dot (cross c m) (cross c m) *ℤ dot m v) (dot g d) left_some (in_ratio g on ∙ ap (λ z. z *ℤ dot g (cross c m)) e ∙ zero-mul_ℤ (dot g (cross c m)))))) (only g g_in)

  pub edge_beside : (signs_of planes d ≡ beside planes v (cross c m)) ⊎ (signs_of planes d ≡ beside planes v (negative (cross c m)))
  edge_beside = ⊎_elim {C = (signs_of planes d ≡ beside planes v (cross c m)) ⊎ (signs_of planes d ≡ beside planes v (negative (cross c m)))}
      (λ same. inl (from_planes (λ n. sign (dot n d)) (beside_at v (cross c m)) planes (λ g g_in. at g g_in (cross c m) (λ on. same (dot g d) (dot g (cross c m)) (in_ratio g on)))))
      (λ turned. inr (from_planes (λ n. sign (dot n d)) (beside_at v (negative (cross c m))) planes (λ g g_in. at g g_in (negative (cross c m)) (λ on. turned (dot g d) (dot g (cross c m)) (in_ratio g on) ∙ ap sign (sym (dot_negative g (cross c m)))))))
      (ratio (dot (cross c m) (cross c m) *ℤ dot m v) (dot (across m d v) (cross c m)) left_some right_some)
    where
      at : (g : V3) → Contains planes g → (w : V3) → (dot g v ≡ pos 0 → sign (dot g d) ≡ sign (dot g w)) → sign (dot g d) ≡ beside_at v w g
      at g g_in w h = by_sign (sign (dot g v)) (sign (dot g w)) (sign (dot g d)) (border_at (λ n. sign (dot n v)) (λ n. sign (dot n d)) planes g border g_in) (λ z. h (zero_sign (dot g v) z))

pub edge_is_beside : (planes : List V3) (v m : V3) (s : List Sign) → ((g : V3) → Contains planes g → g ≢ origin) → dot m v ≢ pos 0 → IsCrossed planes v → IsCell planes s → kind_of s ≡ Edge → IsBorder (signs_of planes v) s → IsBesideOn planes planes v m s
edge_is_beside planes v m s some off crossed cell edge border =
    let d = cell.d in
    let (c, c_in, on_d, only) = on_one planes d (ap zeros cell.is ∙ edge_zeros s edge) in
    let b : IsBorder (signs_of planes v) (signs_of planes d) = subst (IsBorder (signs_of planes v)) (sym cell.is) border in
    let on_v : dot c v ≡ pos 0 = zero_sign (dot c v) (⊎_elim (λ e. e ∙ ap sign on_d) (λ e. e) (border_at (λ n. sign (dot n v)) (λ n. sign (dot n d)) planes c b c_in)) in
    record {
      c = c;
      c_in = c_in;
      on = on_v;
      towards = subst (λ t. (t ≡ beside planes v (cross c m)) ⊎ (t ≡ beside planes v (negative (cross c m)))) cell.is (edge_beside planes v d c m (some c c_in) on_d only on_v off crossed b);
    }

-- ---- lists of signs

then_some : (s t : Sign) → t ≢ Zero → then_sign s t ≢ Zero
then_some Neg t n e = cc
then_some Zero t n e = n e
then_some Pos t n e = cc

pub filled_zeros : (t : Sign) (s : List Sign) → t ≢ Zero → zeros (filled t s) ≡ 0
filled_zeros t [] n = refl
filled_zeros t (x ∷ s) n = zeros_off (then_sign x t) (filled t s) (then_some x t n) ∙ filled_zeros t s n

pub filled_border : (t : Sign) (s : List Sign) → IsBorder s (filled t s)
filled_border t [] = tt
filled_border t (x ∷ s) = (then_border x t, filled_border t s)

-- ---- directions

module _ (planes : List V3) (d c : V3) (some : c ≢ origin) (c_in : Contains planes c) (on : dot c d ≡ pos 0) (only : (g : V3) → Contains planes g → (g ≡ c) ⊎ (dot g d ≢ pos 0)) where
  filled_at : (w : V3) (t : Sign) → sign (dot c w) ≡ t → (g : V3) → Contains planes g → then_sign (sign (dot g d)) (sign (dot g w)) ≡ then_sign (sign (dot g d)) t
  filled_at w t e g g_in = ⊎_elim
      (λ same. ap (then_sign (sign (dot g d))) (ap (λ v. sign (dot v w)) same ∙ e))
      (λ off. then_first (sign (dot g d)) (sign (dot g w)) (sign_some (dot g d) off)
      ∙ sym (then_first (sign (dot g d)) t (sign_some (dot g d) off)))
      (only g g_in)

  towards : (w : V3) (t : Sign) → sign (dot c w) ≡ t → (x : V3) × (signs_of planes x ≡ filled t (signs_of planes d))
  towards w t e =
      let (x, is) = beside_is planes d w in (
        x,
        is ∙ from_planes (λ n. then_sign (sign (dot n d)) (sign (dot n w))) (λ n. then_sign (sign (dot n d)) t) planes (filled_at w t e)
            ∙ sym (map_twice (λ s. then_sign s t) (λ n. sign (dot n d)) planes),
      )

  -- what has d on its border is filled by its sign at c
  pub filled_towards : (w : V3) → IsBorder (signs_of planes d) (signs_of planes w)
      → signs_of planes w ≡ filled (sign (dot c w)) (signs_of planes d)
  filled_towards w b = from_planes (λ n. sign (dot n w)) (λ n. then_sign (sign (dot n d)) (sign (dot c w))) planes
      (λ g g_in. by_sign (sign (dot g d)) (sign (dot g w)) (sign (dot g w))
      (border_at (λ n. sign (dot n d)) (λ n. sign (dot n w)) planes g b g_in) (λ z. refl)
      ∙ filled_at w (sign (dot c w)) refl g g_in)
      ∙ sym (map_twice (λ s. then_sign s (sign (dot c w))) (λ n. sign (dot n d)) planes)

  square : pos 0 <ℤ dot c c
  square = some_square c some

  pub each_incidence : (t : Sign) → t ≢ Zero → (x : V3) × (signs_of planes x ≡ filled t (signs_of planes d))
  each_incidence Neg n = towards (negative c) Neg (negative_sign (dot c (negative c)) (opposite_negative (dot c (negative c)) (dot c c) (dot_negative c c) square))
  each_incidence Zero n = absurd (n refl)
  each_incidence Pos n = towards c Pos (positive_sign (dot c c) square)

-- an incidence of an edge is an open cell with the edge on its border
pub filled_open : (planes : List V3) (e : List Sign) (t : Sign) → ((g : V3) → Contains planes g → g ≢ origin) → IsCell planes e → kind_of e ≡ Edge → t ≢ Zero → IsCell planes (filled t e) × (kind_of (filled t e) ≡ Open) × IsBorder e (filled t e)
filled_open planes e t some cell edge n =
    let d = cell.d in
    let (c, c_in, on, only) = on_one planes d (ap zeros cell.is ∙ edge_zeros e edge) in
    let (x, is) = each_incidence planes d c (some c c_in) c_in on only t n in
    let none : zeros (signs_of planes x) ≡ 0 = ap zeros is ∙ filled_zeros t (signs_of planes d) n in
    let whole : signs_of planes x ≡ filled t e = is ∙ ap (filled t) cell.is in (
      record { d = x; nonzero = λ z. off_all planes x none c c_in (ap sign (ap (dot c) z ∙ dot_origin c)); is = whole },
      open_kind (filled t e) (filled_zeros t e n),
      filled_border t e,
    )

-- and an open cell with an edge on its border is an incidence of it
pub open_filled : (planes : List V3) (e s : List Sign) → ((g : V3) → Contains planes g → g ≢ origin) → IsCell planes e
    → kind_of e ≡ Edge → IsCell planes s → kind_of s ≡ Open → IsBorder e s → (s ≡ filled Neg e) ⊎ (s ≡ filled Pos e)
open_filled planes e s some cell edge around open_is b =
    let d = cell.d in
    let w = around.d in
    let (c, c_in, on, only) = on_one planes d (ap zeros cell.is ∙ edge_zeros e edge) in
    let off = off_all planes w (ap zeros around.is ∙ open_zeros s open_is) c c_in in
    let on_border = subst (IsBorder (signs_of planes d)) (sym around.is) (subst (λ t. IsBorder t s) (sym cell.is) b) in
    by_side (sign (dot c w)) off (sym around.is ∙ filled_towards planes d c (some c c_in) c_in on only w on_border
    ∙ ap (filled (sign (dot c w))) cell.is)
  where
    by_side : (t : Sign) → t ≢ Zero → s ≡ filled t e → (s ≡ filled Neg e) ⊎ (s ≡ filled Pos e)
    by_side Neg off is = inl is
    by_side Zero off is = absurd (off refl)
    by_side Pos off is = inr is
