-- Turns about one normal, crossings, and the next vertex where one between is left out.
use Rattle.std.proofs.Common.{◌≡◌, sym, subst, arith, ℤ, pos, ◌+ℤ◌, ◌-ℤ◌, ◌*ℤ◌, ◌≤ℤ◌, ◌<ℤ◌, [], ◌∷◌, ◌≢◌, ℕ, ap, ◌∙◌, neg_ℤ, List, inl, inr, ◌≤◌, ◌⊎◌, ⊎_elim, zero, suc, refl, negsuc, ◌+◌, ◌%◌, ◌<◌, Bool, true, false, length, cond, add-one}
use Rattle.std.proofs.lemmas.Int.{ints}
use Rattle.staat_vec.specs.declared.vector.V3.{V3}
use Rattle.staat_vec.specs.Vectors.{negative, dot, cross, det, origin, sign, times, minus}
use Rattle.staat_vec.proofs.Ring.{Ex, num, ◌⊕◌, ◌⊖◌, ◌⊗◌, ring, zero-mul_ℤ, at, opp, ring_by}
use Rattle.staat_vec.proofs.VecRing.{VEx, dotE, crossE, negativeE, values, v0, v1, v2, v3, v4, detE, dot_cross_left, dot_negative, dot_scale, timesE, same_vector, scale}
use Rattle.staat_vec.proofs.Order.{pos_mul, positive_nonneg, cancel_zero, as_positive}
use Rattle.staat_vec.proofs.Integers.{cancel_positive, positive_not_zero, mul-comm_ℤ, zero_or}
use Rattle.std.specs.Prelude.{List, Some, slice_get}
use Rattle.staat_vec.specs.Primitives.{primitive, content, IsPrimitive}
use Rattle.staat_model.specs.Circles.{IsLinked, IsOnCircle}
use Rattle.staat_ring.proofs.Stops.{AreLinkedApart}
use Rattle.staat_vec.proofs.VectorLaws.{some_square, cross_twice, no_multiples}
use Rattle.staat_vec.proofs.Signs.{times_sign}
use Rattle.staat_vec.proofs.Divisors.{content-is, content-positive, mul-int_div}
use Rattle.staat_vec.proofs.Primitives.{parallel_primitives}
use Rattle.staat_vec.proofs.Canons.{negative-negative}
use Rattle.std.specs.List.{filter}
use Rattle.std.proofs.Math.Nat.{mod_self, mod-eq_of_lt}
use Rattle.std.proofs.lemmas.Option.{same_Some, slice_get_within}
use Rattle.staat_vec.proofs.Naturals.{same_or}

-- positive where w lies on the half turn from v, seen along g
abbrev pub turn : V3 → V3 → V3 → ℤ
turn g v w = dot (cross v w) g

-- w is the first of those with P that is met when one turns from v
pub record NextBy (P : V3 → Type 0) (g v w : V3) : Type 0 where
  pub after : pos 0 <ℤ turn g v w
  pub none : (x : V3) → P x → pos 0 <ℤ turn g v x → pos 0 <ℤ turn g x w → ⊥

abbrev pub turnE : VEx → VEx → VEx → Ex
turnE g v w = dotE (crossE v w) g

-- four vectors about one normal
pub four_turns : (g p b c d : V3) → turn g p c *ℤ turn g b d ≡ turn g p b *ℤ turn g c d +ℤ turn g p d *ℤ turn g b c
four_turns g p b c d = ring (values (g ∷ p ∷ b ∷ c ∷ d ∷ []) []) (turnE v0 v1 v3 ⊗ turnE v0 v2 v4) (turnE v0 v1 v2 ⊗ turnE v0 v3 v4 ⊕ turnE v0 v1 v4 ⊗ turnE v0 v2 v3) tt

pub turn_back : (g v w : V3) → turn g v w ≡ pos 0 -ℤ turn g w v
turn_back g v w = ring (values (g ∷ v ∷ w ∷ []) []) (turnE v0 v1 v2) (num (pos 0) ⊖ turnE v0 v2 v1) tt

pub turn_same : (g v : V3) → turn g v v ≡ pos 0
turn_same g v = ring (values (g ∷ v ∷ []) []) (turnE v0 v1 v1) (num (pos 0)) tt

pub turn_negative_right : (g v w : V3) → turn g v (negative w) ≡ pos 0 -ℤ turn g v w
turn_negative_right g v w = ring (values (g ∷ v ∷ w ∷ []) []) (turnE v0 v1 (negativeE v2)) (num (pos 0) ⊖ turnE v0 v1 v2) tt

pub turn_negative_left : (g v w : V3) → turn g (negative v) w ≡ pos 0 -ℤ turn g v w
turn_negative_left g v w = ring (values (g ∷ v ∷ w ∷ []) []) (turnE v0 (negativeE v1) v2) (num (pos 0) ⊖ turnE v0 v1 v2) tt

positive_sum : (a b : ℤ) → pos 0 <ℤ a → pos 0 ≤ℤ b → pos 0 <ℤ (a +ℤ b)
positive_sum a b h g = omega (arith, ints)

-- on the open half turn from p: before and before is before
pub turn_trans : (g p b c d : V3) → pos 0 <ℤ turn g p b → pos 0 <ℤ turn g p c → pos 0 <ℤ turn g p d → pos 0 <ℤ turn g b c → pos 0 <ℤ turn g c d → pos 0 <ℤ turn g b d
turn_trans g p b c d pb pc pd bc cd =
    cancel_positive (turn g p c) (turn g b d) pc
    (subst (λ z. pos 0 <ℤ z) (sym (four_turns g p b c d))
    (positive_sum (turn g p b *ℤ turn g c d) (turn g p d *ℤ turn g b c) (pos_mul (turn g p b) (turn g c d) pb cd) (positive_nonneg (turn g p d *ℤ turn g b c) (pos_mul (turn g p d) (turn g b c) pd bc))))

-- ---- crossings: their content, the sides on which they lie, and the planes that pass through them

pub content_divides : (v : V3) → v ≢ origin → (1 ≤ content v) × (v ≡ times (content v) (primitive v))
unfolding primitive
content_divides v some =
    let is = content-is v in
    (content-positive v some, same_vector v (times (content v) (primitive v)) (sym (mul-int_div (content v) v.x is.x)) (sym (mul-int_div (content v) v.y is.y)) (sym (mul-int_div (content v) v.z is.z)))

-- on which side of the plane h a vertex is, by the turning sense from it to the crossing with h
pub turn_is_side : (g h v : V3) → dot g v ≡ pos 0 → turn g v (cross g h) ≡ dot h v *ℤ dot g g
turn_is_side g h v e = ring_by (values (g ∷ h ∷ v ∷ []) []) (turnE v0 v2 (crossE v0 v1)) (dotE v1 v2 ⊗ dotE v0 v0) (opp (dotE v1 v0)) (dotE v0 v2) (num (pos 0)) e tt

pub turn_times_right : (g v w : V3) (k : ℤ) → turn g v (record { x = k *ℤ w.x; y = k *ℤ w.y; z = k *ℤ w.z }) ≡ k *ℤ turn g v w
turn_times_right g v w k = ring (values (g ∷ v ∷ w ∷ []) (k ∷ [])) (turnE v0 v1 (timesE (at 9) v2)) (at 9 ⊗ turnE v0 v1 v2) tt

-- the sign of a turn to a primitive vector is that of the turn to the vector
pub whole : (g v u : V3) → u ≢ origin → turn g v u ≡ pos (content u) *ℤ turn g v (primitive u)
whole g v u some = ap (λ x. turn g v x) (content_divides u some).1 ∙ turn_times_right g v (primitive u) (pos (content u))

-- a vertex of the circle of g is on the side of the plane h on which the crossing with it is
pub side_is : (g h v : V3) → pos 0 <ℤ dot g g → dot g v ≡ pos 0 → cross g h ≢ origin → sign (turn g v (primitive (cross g h))) ≡ sign (dot h v)
side_is g h v gg e some =
    let u : V3 = cross g h in
    let (n, some_n, n_is) = as_positive (dot g g) gg in
    sym (times_sign (content u) (turn g v (primitive u)) (content_divides u some).0)
    ∙ ap sign (sym (whole g v u some) ∙ turn_is_side g h v e ∙ mul-comm_ℤ (dot h v) (dot g g) ∙ ap (λ z. z *ℤ dot h v) n_is)
    ∙ times_sign n (dot h v) some_n

-- ---- a crossing lies on the plane

pub primitive_on : (g u : V3) → dot g u ≡ pos 0 → u ≢ origin → dot g (primitive u) ≡ pos 0
primitive_on g u e some =
    let c = content_divides u some in
    cancel_zero (content u) (dot g (primitive u)) c.0 (sym (ap (dot g) c.1 ∙ dot_scale (pos (content u)) g (primitive u)) ∙ e)

pub negative_on : (g v : V3) → dot g v ≡ pos 0 → dot g (negative v) ≡ pos 0
negative_on g v e = dot_negative g v ∙ ap neg_ℤ e

-- four vectors, of which the last lies on the plane g
four_on : (g u v w : V3) → turn g v w *ℤ dot u u ≡ turn g u w *ℤ dot v u +ℤ turn g v u *ℤ dot w u +ℤ det u v w *ℤ dot g u
four_on g u v w = ring (values (g ∷ u ∷ v ∷ w ∷ []) []) (turnE v0 v2 v3 ⊗ dotE v1 v1) (turnE v0 v1 v3 ⊗ dotE v2 v1 ⊕ turnE v0 v2 v1 ⊗ dotE v3 v1 ⊕ detE v1 v2 v3 ⊗ dotE v0 v1) tt

-- a plane that is not parallel does not pass through both vertices
pub not_both : (g h v w : V3) → pos 0 <ℤ turn g v w → dot g v ≡ pos 0 → dot g w ≡ pos 0 → cross g h ≢ origin → dot h v ≡ pos 0 → dot h w ≡ pos 0 → ⊥
not_both g h v w ahead ev ew apart hv hw =
    let u : V3 = cross g h in
    let big = pos_mul (turn g v w) (dot u u) ahead (some_square u apart) in
    let vu : turn g v u ≡ pos 0 = turn_is_side g h v ev ∙ ap (λ z. z *ℤ dot g g) hv ∙ zero-mul_ℤ (dot g g) in
    let wu : turn g w u ≡ pos 0 = turn_is_side g h w ew ∙ ap (λ z. z *ℤ dot g g) hw ∙ zero-mul_ℤ (dot g g) in
    let uw : turn g u w ≡ pos 0 = turn_back g u w ∙ ap (λ z. pos 0 -ℤ z) wu in
    positive_not_zero (turn g v w *ℤ dot u u) big
    (four_on g u v w ∙ (λ i. uw i *ℤ dot v u +ℤ vu i *ℤ dot w u +ℤ det u v w *ℤ dot_cross_left g h i) ∙ three_zeros (dot v u) (dot w u) (det u v w))
  where
    three_zeros : (a b c : ℤ) → pos 0 *ℤ a +ℤ pos 0 *ℤ b +ℤ c *ℤ pos 0 ≡ pos 0
    three_zeros a b c = omega (arith, ints)

-- a vertex of the circle lies on its plane
pub on_plane : (table : List V3) (linked : List ℕ) (c : ℕ) (g v : V3) → AreLinkedApart table linked → IsLinked table linked c g → IsOnCircle table linked c g v → dot g v ≡ pos 0
on_plane table linked c g v np gi x =
    let p = primitive_on g (cross g x.h) (dot_cross_left g x.h) (np.apart c x.other g x.h gi x.other_is (λ e. x.different (sym e))) in
    elim x.is [
      | inl e ↦ ap (λ u. dot g u) e ∙ p
      | inr e ↦ ap (λ u. dot g u) e ∙ negative_on g (primitive (cross g x.h)) p
    ]

-- ---- the next vertex where one vertex between is left out

-- Lagrange
sizes : (g x : V3) → dot x x *ℤ dot g g ≡ dot x g *ℤ dot x g +ℤ dot (cross g x) (cross g x)
sizes g x = ring (values (g ∷ x ∷ []) []) (dotE v1 v1 ⊗ dotE v0 v0) (dotE v1 v0 ⊗ dotE v1 v0 ⊕ dotE (crossE v0 v1) (crossE v0 v1)) tt

origin_size : dot origin origin ≡ pos 0
origin_size = refl

zero_of : (a b c d : ℤ) → pos 0 <ℤ b → a *ℤ b ≡ c *ℤ c +ℤ d → c ≡ pos 0 → d ≡ pos 0 → pos 0 <ℤ a → ⊥
zero_of a b c d gb e ec ed pa = positive_not_zero (a *ℤ b) (Rattle.staat_vec.proofs.Order.pos_mul a b pa gb) (e ∙ ((λ i. ec i *ℤ ec i +ℤ ed i) ∙ refl))

-- two vectors on the plane of g with no turn between them are parallel
pub no_turn : (g v w : V3) → pos 0 <ℤ dot g g → dot g v ≡ pos 0 → dot g w ≡ pos 0 → turn g v w ≡ pos 0 → (cross v w ≢ origin) → ⊥
no_turn g v w gg ev ew flat some =
    let x : V3 = cross v w in
    let beside : cross g x ≡ origin = cross_twice g v w ∙ ((λ i. minus (scale (ew i) v) (scale (ev i) w)) ∙ no_multiples v w) in
    zero_of (dot x x) (dot g g) (dot x g) (dot (cross g x) (cross g x)) gg (sizes g x) flat (ap (λ y. dot y y) beside ∙ origin_size) (some_square x some)

is_origin : (x : V3) → (x ≢ origin → ⊥) → x ≡ origin
is_origin x h = ⊎_elim {C = x ≡ origin} (λ a. ⊎_elim {C = x ≡ origin} (λ b. ⊎_elim {C = x ≡ origin} (λ c. same_vector x origin a b c) (λ nc. absurd (h (λ e. nc (ap (λ v. v.z) e)))) (zero_or x.z)) (λ nb. absurd (h (λ e. nb (ap (λ v. v.y) e)))) (zero_or x.y)) (λ na. absurd (h (λ e. na (ap (λ v. v.x) e)))) (zero_or x.x)

pub same_ray : (g v w : V3) → pos 0 <ℤ dot g g → dot g v ≡ pos 0 → dot g w ≡ pos 0 → IsPrimitive v → IsPrimitive w → turn g v w ≡ pos 0 → (v ≡ w) ⊎ (v ≡ negative w)
same_ray g v w gg ev ew pv pw flat = parallel_primitives v w pv pw (is_origin (cross v w) (no_turn g v w gg ev ew flat))

-- ---- a vertex is left out

-- a vertex of the circle of g
pub record IsPoint (g v : V3) : Type 0 where
  pub on : dot g v ≡ pos 0
  pub primitive : IsPrimitive v

pub three : (a : ℤ) → (pos 0 <ℤ a) ⊎ ((a ≡ pos 0) ⊎ (a <ℤ pos 0))
three (pos zero) = inr (inl refl)
three (pos (suc n)) = inl (omega (arith, ints))
three (negsuc n) = inr (inr (omega (arith, ints)))

back_negative : (g u v : V3) → pos 0 <ℤ turn g u v → turn g v u <ℤ pos 0
back_negative g u v h = let e = turn_back g u v in omega (arith, ints)

back_positive : (g a b : V3) → turn g a b <ℤ pos 0 → pos 0 <ℤ turn g b a
back_positive g a b h = let e = turn_back g b a in omega (arith, ints)

-- All are the vertices of a circle, kept are those that stay; both have with each vertex its negative. From v the next is u,
-- from u the next is w; u does not stay. Then w is the next after v among those that stay.
module _ (g : V3) (gg : pos 0 <ℤ dot g g) (All Kept : V3 → Type 0) (points : (x : V3) → All x → IsPoint g x) (all_turned : (x : V3) → All x → All (negative x)) (kept_turned : (x : V3) → Kept x → Kept (negative x)) (kept_in : (x : V3) → Kept x → All x)
    (v u w k : V3) (kv : Kept v) (au : All u) (not_kept : Kept u → ⊥) (kw : Kept w) (kk : Kept k) (other : turn g v k ≢ pos 0)
    (vu : pos 0 <ℤ turn g v u) (uw : pos 0 <ℤ turn g u w) (none_vu : (x : V3) → All x → pos 0 <ℤ turn g v x → pos 0 <ℤ turn g x u → ⊥) (none_uw : (x : V3) → All x → pos 0 <ℤ turn g u x → pos 0 <ℤ turn g x w → ⊥) where
  -- what stays is not on the ray of u
  off_ray : (x : V3) → Kept x → turn g x u ≡ pos 0 → ⊥
  off_ray x kx flat =
      let p = points x (kept_in x kx) in
      let q = points u au in
      ⊎_elim {C = ⊥} (λ e. not_kept (subst Kept e kx)) (λ e. not_kept (subst Kept (negative-negative u) (kept_turned (negative u) (subst Kept e kx)))) (same_ray g x u gg p.on q.on p.primitive q.primitive flat)

  -- what stays and comes after v comes after u
  past : (x : V3) → Kept x → pos 0 <ℤ turn g v x → pos 0 <ℤ turn g u x
  past x kx vx = ⊎_elim {C = pos 0 <ℤ turn g u x} (λ xu. absurd (none_vu x (kept_in x kx) vx xu)) (λ o. ⊎_elim {C = pos 0 <ℤ turn g u x} (λ flat. absurd (off_ray x kx flat)) (λ ux. back_positive g x u ux) o) (three (turn g x u))

  pub nothing_kept : (x : V3) → Kept x → pos 0 <ℤ turn g v x → pos 0 <ℤ turn g x w → ⊥
  nothing_kept x kx vx xw = none_uw x (kept_in x kx) (past x kx vx) xw

  opposite : pos 0 <ℤ turn g u (negative v)
  opposite = let e = turn_negative_right g u v in let b = turn_back g v u in omega (arith, ints)

  not_behind : turn g v w <ℤ pos 0 → ⊥
  not_behind h = none_uw (negative v) (all_turned v (kept_in v kv)) opposite (let e = turn_negative_left g v w in omega (arith, ints))

  -- some vertex that stays comes after v
  ahead_of : (x : V3) × Kept x × (pos 0 <ℤ turn g v x)
  ahead_of = ⊎_elim {C = (x : V3) × Kept x × (pos 0 <ℤ turn g v x)} (λ h. (k, kk, h)) (λ o. ⊎_elim {C = (x : V3) × Kept x × (pos 0 <ℤ turn g v x)} (λ z. absurd (other z)) (λ n. (negative k, kept_turned k kk, (let e = turn_negative_right g v k in omega (arith, ints)))) o) (three (turn g v k))

  not_flat : turn g v w ≡ pos 0 → ⊥
  not_flat flat =
      let p = points v (kept_in v kv) in
      let q = points w (kept_in w kw) in
      let (x, kx, vx) = ahead_of in
      ⊎_elim {C = ⊥}
      (λ e. let h = back_negative g v u vu in let f = ap (λ y. turn g u y) e in absurd (omega (arith, ints)))
      (λ e. none_uw x (kept_in x kx) (past x kx vx) (subst (λ y. pos 0 <ℤ turn g x y) (sym (turned_back v w e)) (let f = turn_negative_right g x v in let b = turn_back g v x in omega (arith, ints))))
      (same_ray g v w gg p.on q.on p.primitive q.primitive flat)
    where
      turned_back : (v w : V3) → v ≡ negative w → w ≡ negative v
      turned_back v w e = sym (Rattle.staat_vec.proofs.Canons.negative-negative w) ∙ ap negative (sym e)

  pub still_after : pos 0 <ℤ turn g v w
  still_after = ⊎_elim {C = pos 0 <ℤ turn g v w} (λ h. h) (λ o. ⊎_elim {C = pos 0 <ℤ turn g v w} (λ z. absurd (not_flat z)) (λ n. absurd (not_behind n)) o) (three (turn g v w))

-- ---- a list that is read around, where members are left out of which no two follow each other

-- R holds from a to the first, from each to the next, and from the last to b
abbrev pub Linked : {A : Type 0} → (A → A → Type 0) → A → List A → A → Type 0
Linked R a [] b = R a b
Linked R a (x ∷ xs) b = R a x × Linked R x xs b

-- R holds from each to the next, the last being followed by the first
abbrev pub Around : {A : Type 0} → (A → A → Type 0) → List A → Type 0
Around {A = A} R xs = (k : ℕ) (s t : A) → slice_get xs k ≡ Some s → slice_get xs ((k + 1) % length xs) ≡ Some t → R s t

-- the next place, or the first
pub following : (k m : ℕ) → k < m → ((k + 1) % m ≡ k + 1) ⊎ ((k + 1 ≡ m) × ((k + 1) % m ≡ 0))
following k m lt = ⊎_elim {C = ((k + 1) % m ≡ k + 1) ⊎ ((k + 1 ≡ m) × ((k + 1) % m ≡ 0))} (λ e. inr (e, ap (λ j. j % m) e ∙ mod_self m)) (λ ne. inl (mod-eq_of_lt (omega (arith, lt, ne)))) (same_or (k + 1) m)

-- ---- both ways

linked_from : {A : Type 0} (R : A → A → Type 0) (a : A) (xs : List A) (b : A) → ((k : ℕ) (s t : A) → slice_get (a ∷ xs) k ≡ Some s → slice_get (a ∷ xs) (suc k) ≡ Some t → R s t) → ((s : A) → slice_get (a ∷ xs) (length xs) ≡ Some s → R s b) → Linked R a xs b
linked_from R a [] b step last = last a refl
linked_from R a (x ∷ xs) b step last = (step zero a x refl refl, linked_from R x xs b (λ k s t p q. step (suc k) s t p q) (λ s p. last s p))

pub linked_of_around : {A : Type 0} (R : A → A → Type 0) (a : A) (xs : List A) → Around R (a ∷ xs) → Linked R a xs a
linked_of_around R a xs around = linked_from R a xs a
    (λ k s t p q.
    let lt = slice_get_within (a ∷ xs) (suc k) t q in
    around k s t p (subst (λ m. slice_get (a ∷ xs) m ≡ Some t) (sym (ap (λ m. m % length (a ∷ xs)) (add-one k) ∙ mod-eq_of_lt lt)) q))
    (λ s p. around (length xs) s a p (subst (λ m. slice_get (a ∷ xs) m ≡ Some a) (sym (ap (λ m. m % length (a ∷ xs)) (add-one (length xs)) ∙ mod_self (length (a ∷ xs)))) refl))

linked_step : {A : Type 0} (R : A → A → Type 0) (a : A) (xs : List A) (b : A) → Linked R a xs b → (k : ℕ) (s t : A) → slice_get (a ∷ xs) k ≡ Some s → slice_get (a ∷ xs) (suc k) ≡ Some t → R s t
linked_step R a [] b l k s t p q = absurd (let lt = slice_get_within (a ∷ []) (suc k) t q in omega (arith, lt))
linked_step R a (x ∷ xs) b l zero s t p q = subst (λ y. R y t) (same_Some a s p) (subst (R a) (same_Some x t q) l.0)
linked_step R a (x ∷ xs) b l (suc k) s t p q = linked_step R x xs b l.1 k s t p q

linked_last : {A : Type 0} (R : A → A → Type 0) (a : A) (xs : List A) (b : A) → Linked R a xs b → (s : A) → slice_get (a ∷ xs) (length xs) ≡ Some s → R s b
linked_last R a [] b l s p = subst (λ y. R y b) (same_Some a s p) l
linked_last R a (x ∷ xs) b l s p = linked_last R x xs b l.1 s p

pub around_of_linked : {A : Type 0} (R : A → A → Type 0) (a : A) (xs : List A) → Linked R a xs a → Around R (a ∷ xs)
around_of_linked R a xs l k s t p q = ⊎_elim {C = R s t}
    (λ e. linked_step R a xs a l k s t p (subst (λ m. slice_get (a ∷ xs) m ≡ Some t) (e ∙ add-one k) q))
    (λ e.
    let at_last = subst (λ m. slice_get (a ∷ xs) m ≡ Some s) (let k_is : k ≡ length xs = omega (arith, e.0) in k_is) p in
    subst (R s) (same_Some a t (subst (λ m. slice_get (a ∷ xs) m ≡ Some t) e.1 q)) (linked_last R a xs a l s at_last))
    (following k (length (a ∷ xs)) (slice_get_within (a ∷ xs) k s p))

-- ---- left out

module _ {A : Type 0} (R S : A → A → Type 0) (keep : A → Bool)
    (both : (a b : A) → keep a ≡ true → keep b ≡ true → R a b → S a b)
    (over : (a u b : A) → keep a ≡ true → keep u ≡ false → keep b ≡ true → R a u → R u b → S a b)
    (apart : (u x : A) → keep u ≡ false → keep x ≡ false → R u x → ⊥) where
  pub linked_filter : (a : A) (xs : List A) (b : A) → keep a ≡ true → keep b ≡ true → Linked R a xs b → Linked S a (filter keep xs) b
  linked_filter a [] b ka kb l = both a b ka kb l
  linked_filter a (x ∷ []) b ka kb l = one (keep x) refl
    where
      one : (t : Bool) → keep x ≡ t → Linked S a (cond t (x ∷ []) []) b
      one true e = (both a x ka e l.0, both x b e kb l.1)
      one false e = over a x b ka e kb l.0 l.1
  linked_filter a (x ∷ y ∷ ys) b ka kb l = two (keep x) refl (λ e. linked_filter x (y ∷ ys) b e kb l.1) (λ e. linked_filter y ys b e kb l.1.1)
    where
      two : (t : Bool) → keep x ≡ t → (keep x ≡ true → Linked S x (filter keep (y ∷ ys)) b) → (keep y ≡ true → Linked S y (filter keep ys) b) → Linked S a (cond t (x ∷ filter keep (y ∷ ys)) (filter keep (y ∷ ys))) b
      two true e rest more = (both a x ka e l.0, rest e)
      two false e rest more = next (keep y) refl
        where
          next : (t : Bool) → keep y ≡ t → Linked S a (cond t (y ∷ filter keep ys) (filter keep ys)) b
          next true f = (over a x y ka e f l.0 l.1.0, more f)
          next false f = absurd (apart x y e f l.1.0)

  -- the members that stay, read around
  pub around_filter : (a : A) (xs : List A) → keep a ≡ true → Around R (a ∷ xs) → Around S (a ∷ filter keep xs)
  around_filter a xs ka around = around_of_linked S a (filter keep xs) (linked_filter a xs a ka ka (linked_of_around R a xs around))
