-- Each vector but the origin is a positive multiple of exactly one primitive vector.
use Rattle.std.proofs.Common.{◌≡◌, ◌≢◌, ◌⊎◌, inl, inr, ℕ, zero, suc, ◌*◌, ◌/◌, ◌≤◌, refl, sym, ap, subst, ◌∙◌, arith, ℤ, pos, negsuc, ◌*ℤ◌, ◌<ℤ◌, neg_ℤ, int_div, unsigned_abs, mul-one, [], ◌∷◌}
use Prim.Native.Nat.{◌∣◌}
use native.Mathlib.Nat.{dvd-zero, dvd-mul_right, dvd_of_mul-dvd-mul_left, eq-one_of_dvd-one, mul-div_cancel'}
use Rattle.std.proofs.lemmas.Int.{unsigned_abs-mul}
use Rattle.staat_vec.specs.declared.vector.V3.{V3}
use Rattle.staat_vec.specs.Vectors.{IsWithin, origin, negative, plus, times, cross, dot}
use Rattle.staat_vec.specs.Primitives.{IsPrimitive, IsPrimitiveOf, content, primitive}
use Rattle.staat_vec.proofs.Divisors.{content-is, content-only, content-positive, abs-neg, abs-int_div_le, int_div-neg, int_div-mul, mul-int_div, mul-divides}
use Rattle.staat_vec.proofs.VecRing.{crossE, dotE, negativeE, originE, plusE, ring3, same_vector, scale, timesE, v0, v1, values}
use Rattle.staat_vec.proofs.Order.{as_positive}
use Rattle.staat_vec.proofs.Ring.{at, num, opp}
use Rattle.staat_vec.proofs.VectorLaws.{some_square, unscaled}

-- a primitive vector is not the origin, which 2 divides
pub IsPrimitive-some : (v : V3) → IsPrimitive v → v ≢ origin
IsPrimitive-some v prim e =
    let at_origin : IsPrimitive origin = subst (λ w. IsPrimitive w) e prim in
    let two : ◌≡◌ {A = ℕ} 2 1 = at_origin 2 (dvd-zero 2) (dvd-zero 2) (dvd-zero 2) in
    omega arith

pub IsPrimitive-negative : (v : V3) → IsPrimitive v → IsPrimitive (negative v)
IsPrimitive-negative v prim d p q r = prim d (subst (λ n. d ∣ n) (abs-neg v.x) p) (subst (λ n. d ∣ n) (abs-neg v.y) q) (subst (λ n. d ∣ n) (abs-neg v.z) r)

pub primitive-is : (v : V3) → v ≢ origin → IsPrimitiveOf v (primitive v)
unfolding primitive
primitive-is v some =
    let g = content v in
    let is = content-is v in
    let one = content-positive v some in
    let x : v.x ≡ pos g *ℤ int_div v.x (pos g) = sym (mul-int_div g v.x is.x) in
    let y : v.y ≡ pos g *ℤ int_div v.y (pos g) = sym (mul-int_div g v.y is.y) in
    let z : v.z ≡ pos g *ℤ int_div v.z (pos g) = sym (mul-int_div g v.z is.z) in record {
      factor = g;
      positive = one;
      multiple = same_vector v (times g (primitive v)) x y z;
      primitive = λ d p q r.
          let whole = is.greatest (g * d) (mul-divides g d v.x (int_div v.x (pos g)) x p) (mul-divides g d v.y (int_div v.y (pos g)) y q) (mul-divides g d v.z (int_div v.z (pos g)) z r) in
          eq-one_of_dvd-one (dvd_of_mul-dvd-mul_left d one (subst (λ k. g * d ∣ k) (sym (mul-one g)) whole));
    }

-- the factor of a multiple of a primitive vector is the multiple's content
factor-only : (v p : V3) (k : ℕ) → 1 ≤ k → v ≡ times k p → IsPrimitive p → k ≡ content v
factor-only v p k one e prim =
    let g = content v in
    let is = content-is v in
    let ex : unsigned_abs v.x ≡ k * unsigned_abs p.x = ap (λ w. unsigned_abs w.x) e ∙ unsigned_abs-mul (pos k) p.x in
    let ey : unsigned_abs v.y ≡ k * unsigned_abs p.y = ap (λ w. unsigned_abs w.y) e ∙ unsigned_abs-mul (pos k) p.y in
    let ez : unsigned_abs v.z ≡ k * unsigned_abs p.z = ap (λ w. unsigned_abs w.z) e ∙ unsigned_abs-mul (pos k) p.z in
    let divides : (n m : ℕ) → m ≡ k * n → k ∣ m = λ n m same. subst (λ j. k ∣ j) (sym same) (dvd-mul_right k n) in
    let k_g : k ∣ g = is.greatest k (divides (unsigned_abs p.x) (unsigned_abs v.x) ex) (divides (unsigned_abs p.y) (unsigned_abs v.y) ey) (divides (unsigned_abs p.z) (unsigned_abs v.z) ez) in
    let rest = g / k in
    let back : k * rest ≡ g = mul-div_cancel' k k_g in
    let part : (n m : ℕ) → m ≡ k * n → g ∣ m → rest ∣ n = λ n m same h. dvd_of_mul-dvd-mul_left rest one (subst (λ j. j ∣ k * n) (sym back) (subst (λ j. g ∣ j) same h)) in
    let unit : ◌≡◌ {A = ℕ} rest 1 = prim rest (part (unsigned_abs p.x) (unsigned_abs v.x) ex is.x) (part (unsigned_abs p.y) (unsigned_abs v.y) ey is.y) (part (unsigned_abs p.z) (unsigned_abs v.z) ez is.z) in
    sym (mul-one k) ∙ ap (λ j. k * j) (sym unit) ∙ back

pub primitive-only : (v p : V3) → IsPrimitiveOf v p → p ≡ primitive v
unfolding primitive
primitive-only v p h =
    let same : h.factor ≡ content v = factor-only v p h.factor h.positive h.multiple h.primitive in
    let part : (a b : ℤ) → b ≡ pos h.factor *ℤ a → a ≡ int_div b (pos (content v)) = λ a b e. sym (int_div-mul h.factor a h.positive) ∙ ap (λ c. int_div c (pos h.factor)) (sym e) ∙ ap (λ k. int_div b (pos k)) same in
    same_vector p (primitive v) (part p.x v.x (ap (λ w. w.x) h.multiple)) (part p.y v.y (ap (λ w. w.y) h.multiple)) (part p.z v.z (ap (λ w. w.z) h.multiple))

-- two primitive vectors on one ray are equal
pub same_primitive : (a c : ℕ) (n m : V3) → 1 ≤ a → 1 ≤ c → times a n ≡ times c m → IsPrimitive n → IsPrimitive m → n ≡ m
same_primitive a c n m one other e pn pm =
    let first : IsPrimitiveOf (times a n) n = record { factor = a; positive = one; multiple = refl; primitive = pn } in
    let second : IsPrimitiveOf (times a n) m = record { factor = c; positive = other; multiple = e; primitive = pm } in
    primitive-only (times a n) n first ∙ sym (primitive-only (times a n) m second)

pub content-negative : (v : V3) → content (negative v) ≡ content v
content-negative v =
    let is = content-is (negative v) in
    content-only v (content (negative v)) (record {
      x = subst (λ n. content (negative v) ∣ n) (abs-neg v.x) is.x;
      y = subst (λ n. content (negative v) ∣ n) (abs-neg v.y) is.y;
      z = subst (λ n. content (negative v) ∣ n) (abs-neg v.z) is.z;
      greatest = λ d p q r. is.greatest d (subst (λ n. d ∣ n) (sym (abs-neg v.x)) p) (subst (λ n. d ∣ n) (sym (abs-neg v.y)) q) (subst (λ n. d ∣ n) (sym (abs-neg v.z)) r);
    })

pub primitive-negative : (v : V3) → primitive (negative v) ≡ negative (primitive v)
unfolding primitive
primitive-negative v =
    let part : (a : ℤ) → int_div (neg_ℤ a) (pos (content (negative v))) ≡ neg_ℤ (int_div a (pos (content v))) = λ a. ap (λ k. int_div (neg_ℤ a) (pos k)) (content-negative v) ∙ int_div-neg a (content v) in
    same_vector (primitive (negative v)) (negative (primitive v)) (part v.x) (part v.y) (part v.z)

-- the primitive vector keeps each bound
pub IsWithin-primitive : (bound : ℕ) (v : V3) → IsWithin bound v → IsWithin bound (primitive v)
unfolding primitive
IsWithin-primitive bound v h = record {
  x = omega (arith, h.x, abs-int_div_le v.x (content v));
  y = omega (arith, h.y, abs-int_div_le v.y (content v));
  z = omega (arith, h.z, abs-int_div_le v.z (content v));
}

-- ---- parallel primitive vectors are equal or opposite

module _ (n m : V3) (pn : IsPrimitive n) (pm : IsPrimitive m) where
  -- a multiple of n is one of m, where they lie on one line
  spread : cross n m ≡ origin → (k : ℤ) → dot n m ≡ k → scale (dot m m) n ≡ scale k m
  spread e k q =
      ring3 (values (n ∷ m ∷ []) []) (timesE (dotE v1 v1) v0) (plusE (timesE (dotE v0 v1) v1) (crossE v1 (crossE v0 v1))) (tt, tt, tt)
      ∙ (λ i. plus (scale (q i) m) (cross m (e i)))
      ∙ ring3 (values (m ∷ []) (k ∷ [])) (plusE (timesE (at 3) v0) (crossE v0 originE)) (timesE (at 3) v0) (tt, tt, tt)

  square : pos 0 <ℤ dot m m
  square = some_square m (IsPrimitive-some m pm)

  only : (c : ℕ) (p : V3) → IsPrimitive p → scale (dot m m) n ≡ times (suc c) p → n ≡ p
  only c p prim is = let a = as_positive (dot m m) square in same_primitive a.0 (suc c) n p a.1 (omega arith) (ap (λ k. scale k n) (sym a.2) ∙ is) pn prim

  by_product : cross n m ≡ origin → (k : ℤ) → dot n m ≡ k → (n ≡ m) ⊎ (n ≡ negative m)
  by_product e (pos zero) q = absurd (IsPrimitive-some n pn (unscaled (dot m m) n square (spread e (pos 0) q ∙ ring3 (values (m ∷ []) []) (timesE (num (pos 0)) v0) originE (tt, tt, tt))))
  by_product e (pos (suc c)) q = inl (only c m pm (spread e (pos (suc c)) q))
  by_product e (negsuc c) q =
      inr (only c (negative m) (IsPrimitive-negative m pm)
      (spread e (negsuc c) q ∙ ring3 (values (m ∷ []) (pos (suc c) ∷ [])) (timesE (opp (at 3)) v0) (timesE (at 3) (negativeE v0)) (tt, tt, tt)))

  pub parallel_primitives : cross n m ≡ origin → (n ≡ m) ⊎ (n ≡ negative m)
  parallel_primitives e = by_product e (dot n m) refl
