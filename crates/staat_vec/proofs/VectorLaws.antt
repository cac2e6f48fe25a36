-- Equations of sums, products and multiples of vectors, and which of them are not the origin.
use Rattle.staat_vec.specs.declared.vector.V3.{V3}
use Rattle.std.proofs.Common.{arith, inl, inr, pos, ℤ, ◌*ℤ◌, ◌+ℤ◌, ◌<ℤ◌, ◌≡◌, ◌≢◌, ◌≤ℤ◌, ◌⊎◌, ap, [], ◌∷◌, ℕ, ◌*◌, ◌+◌, ◌-ℤ◌, ◌∙◌}
use Rattle.staat_vec.specs.Vectors.{dot, origin, negative, plus, times, minus, cross, det}
use Rattle.std.proofs.lemmas.Int.{ints}
use Rattle.staat_vec.proofs.Order.{square_nonneg, square_sign}
use Rattle.staat_vec.proofs.VecRing.{plusE, ring3, v0, v1, values, same_vector, timesE, v2, scale, minusE, originE, dotE, crossE, cross_turned, detE}
use Rattle.staat_vec.proofs.Ring.{at, ◌⊗◌, num, ◌⊕◌, ring, ◌⊖◌}
use Rattle.staat_vec.proofs.Integers.{other_factor_zero, positive_not_zero, zero_from_opposite}

-- ---- vectors that are not the origin

pub some_square : (v : V3) → v ≢ origin → pos 0 <ℤ dot v v
some_square v some = go (square_sign v.x) (square_sign v.y) (square_sign v.z)
  where
    sum : (a b c : ℤ) → pos 0 ≤ℤ a → pos 0 ≤ℤ b → pos 0 ≤ℤ c → (pos 0 <ℤ a) ⊎ ((pos 0 <ℤ b) ⊎ (pos 0 <ℤ c)) → pos 0 <ℤ (a +ℤ b +ℤ c)
    sum a b c p q r h = grind (arith, ints)

    go : (v.x ≡ pos 0) ⊎ (pos 0 <ℤ (v.x *ℤ v.x)) → (v.y ≡ pos 0) ⊎ (pos 0 <ℤ (v.y *ℤ v.y)) → (v.z ≡ pos 0) ⊎ (pos 0 <ℤ (v.z *ℤ v.z)) → pos 0 <ℤ dot v v
    go (inr a) y z = sum (v.x *ℤ v.x) (v.y *ℤ v.y) (v.z *ℤ v.z) (square_nonneg v.x) (square_nonneg v.y) (square_nonneg v.z) (inl a)
    go (inl e) (inr b) z = sum (v.x *ℤ v.x) (v.y *ℤ v.y) (v.z *ℤ v.z) (square_nonneg v.x) (square_nonneg v.y) (square_nonneg v.z) (inr (inl b))
    go (inl e) (inl f) (inr c) = sum (v.x *ℤ v.x) (v.y *ℤ v.y) (v.z *ℤ v.z) (square_nonneg v.x) (square_nonneg v.y) (square_nonneg v.z) (inr (inr c))
    go (inl e) (inl f) (inl k) = absurd (some (λ i. record { x = e i; y = f i; z = k i }))

pub negative_some : (n : V3) → n ≢ origin → negative n ≢ origin
negative_some n some e = some (λ i. record { x = zero_from_opposite n.x (ap (λ v. v.x) e) i; y = zero_from_opposite n.y (ap (λ v. v.y) e) i; z = zero_from_opposite n.z (ap (λ v. v.z) e) i })

-- ---- sums and multiples

pub plus_comm : (u v : V3) → plus u v ≡ plus v u
plus_comm u v = ring3 (values (u ∷ v ∷ []) []) (plusE v0 v1) (plusE v1 v0) (tt, tt, tt)

pub plus_assoc : (u v w : V3) → plus u (plus v w) ≡ plus (plus u v) w
plus_assoc u v w = same_vector _ _ (omega (arith, ints)) (omega (arith, ints)) (omega (arith, ints))

pub plus_origin : (v : V3) → plus v origin ≡ v
plus_origin v = same_vector _ _ (omega (arith, ints)) (omega (arith, ints)) (omega (arith, ints))

pub times_twice : (b k : ℕ) (m : V3) → times b (times k m) ≡ times (b * k) m
times_twice b k m = ring3 (values (m ∷ []) (pos b ∷ pos k ∷ [])) (timesE (at 3) (timesE (at 4) v0)) (timesE (at 3 ⊗ at 4) v0) (tt, tt, tt)

pub times_zero_plus : (w m : V3) → plus (times 0 w) m ≡ m
times_zero_plus w m = ring3 (values (w ∷ m ∷ []) []) (plusE (timesE (num (pos 0)) v0) v1) v1 (tt, tt, tt)

pub times_sum_plus : (x y : ℕ) (v m n : V3) → plus (times (x + y) v) (plus m n) ≡ plus (plus (times x v) m) (plus (times y v) n)
times_sum_plus x y v m n =
    ring3 (values (v ∷ m ∷ n ∷ []) (pos x ∷ pos y ∷ []))
    (plusE (timesE (at 9 ⊕ at 10) v0) (plusE v1 v2))
    (plusE (plusE (timesE (at 9) v0) v1) (plusE (timesE (at 10) v0) v2)) (tt, tt, tt)

pub unscaled : (s : ℤ) (v : V3) → pos 0 <ℤ s → scale s v ≡ origin → v ≡ origin
unscaled s v h e =
    let some = positive_not_zero s h in
    same_vector v origin (other_factor_zero s v.x some (ap (λ (w : V3). w.x) e)) (other_factor_zero s v.y some (ap (λ (w : V3). w.y) e)) (other_factor_zero s v.z some (ap (λ (w : V3). w.z) e))

pub no_multiples : (u v : V3) → minus (scale (pos 0) u) (scale (pos 0) v) ≡ origin
no_multiples u v = ring3 (values (u ∷ v ∷ []) []) (minusE (timesE (num (pos 0)) v0) (timesE (num (pos 0)) v1)) originE (tt, tt, tt)

-- ---- dot products

pub dot_origin : (n : V3) → dot n origin ≡ pos 0
dot_origin n = ring (values (n ∷ []) []) (dotE v0 originE) (num (pos 0)) tt

pub dot_plus : (v x y : V3) → dot v (plus x y) ≡ dot v x +ℤ dot v y
dot_plus v x y = ring (values (v ∷ x ∷ y ∷ []) []) (dotE v0 (plusE v1 v2)) (dotE v0 v1 ⊕ dotE v0 v2) tt

pub dot_minus : (b a x : V3) → dot (minus b a) x ≡ dot b x -ℤ dot a x
dot_minus b a x = ring (values (b ∷ a ∷ x ∷ []) []) (dotE (minusE v0 v1) v2) (dotE v0 v2 ⊖ dotE v1 v2) tt

pub dot_along : (n v w : V3) (l : ℕ) → dot n (plus (times l v) w) ≡ pos l *ℤ dot n v +ℤ dot n w
dot_along n v w l = ring (values (n ∷ v ∷ w ∷ []) (pos l ∷ [])) (dotE v0 (plusE (timesE (at 9) v1) v2)) (at 9 ⊗ dotE v0 v1 ⊕ dotE v0 v2) tt

pub dot_cross_about : (g c m : V3) → dot g (cross c m) ≡ dot m (cross g c)
dot_cross_about g c m = ring (values (g ∷ c ∷ m ∷ []) []) (dotE v0 (crossE v1 v2)) (dotE v2 (crossE v0 v1)) tt

-- ---- cross products

pub cross_origin : (h : V3) → cross origin h ≡ origin
cross_origin h = ring3 (values (h ∷ []) []) (crossE originE v0) originE (tt, tt, tt)

pub cross_back : (g h : V3) → cross g h ≡ origin → cross h g ≡ origin
cross_back g h e = cross_turned h g ∙ ap negative e

pub cross_twice : (n u v : V3) → cross n (cross u v) ≡ minus (scale (dot n v) u) (scale (dot n u) v)
cross_twice n u v = ring3 (values (n ∷ u ∷ v ∷ []) []) (crossE v0 (crossE v1 v2)) (minusE (timesE (dotE v0 v2) v1) (timesE (dotE v0 v1) v2)) (tt, tt, tt)

pub crossed_spread : (d u v : V3) → scale (dot d d) (cross u v) ≡ plus (minus (scale (dot (cross d u) v) d) (scale (dot d v) (cross d u))) (scale (dot d u) (cross d v))
crossed_spread d u v =
    ring3 (values (d ∷ u ∷ v ∷ []) [])
    (timesE (dotE v0 v0) (crossE v1 v2))
    (plusE (minusE (timesE (dotE (crossE v0 v1) v2) v0) (timesE (dotE v0 v2) (crossE v0 v1))) (timesE (dotE v0 v1) (crossE v0 v2)))
    (tt, tt, tt)

pub nothing_spread : (d u v : V3) → plus (minus (scale (dot origin v) d) (scale (dot d v) origin)) (scale (dot d u) origin) ≡ origin
nothing_spread d u v =
    ring3 (values (d ∷ u ∷ v ∷ []) [])
    (plusE (minusE (timesE (dotE originE v2) v0) (timesE (dotE v0 v2) originE)) (timesE (dotE v0 v1) originE))
    originE
    (tt, tt, tt)

-- what is parallel to one direction is parallel
pub parallel_cross : (d u v : V3) → d ≢ origin → cross d u ≡ origin → cross d v ≡ origin → cross u v ≡ origin
parallel_cross d u v some e f =
    unscaled (dot d d) (cross u v) (some_square d some)
    (crossed_spread d u v
    ∙ (λ i. plus (minus (scale (dot (e i) v) d) (scale (dot d v) (e i))) (scale (dot d u) (f i)))
    ∙ nothing_spread d u v)

-- ---- determinants

pub det_dot : (u v w : V3) → det u v w ≡ dot (cross u v) w
det_dot u v w = ring (values (u ∷ v ∷ w ∷ []) []) (detE v0 v1 v2) (dotE (crossE v0 v1) v2) tt

pub det_same : (g h : V3) → det g h h ≡ pos 0
det_same g h = ring (values (g ∷ h ∷ []) []) (detE v0 v1 v1) (num (pos 0)) tt

pub det_back : (g a b : V3) → det g a b ≡ pos 0 -ℤ det g b a
det_back g a b = ring (values (g ∷ a ∷ b ∷ []) []) (detE v0 v1 v2) (num (pos 0) ⊖ detE v0 v2 v1) tt
