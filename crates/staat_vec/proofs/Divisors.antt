-- Common divisors of three numbers, and what division by one gives.
use Rattle.std.proofs.Common.{◌≡◌, ◌≢◌, ℕ, zero, suc, ◌+◌, ◌*◌, ◌/◌, ◌%◌, ◌<◌, ◌≤◌, Bool, true, false, if◌then◌else◌, ◌==◌, ◌&&◌, refl, sym, ap, subst, ◌∙◌, arith, ℤ, pos, negsuc, ◌*ℤ◌, neg_ℤ, int_div, unsigned_abs, mod-lt, mul-zero}
use Prim.Native.Nat.{◌∣◌}
use native.Mathlib.Nat.{dvd-zero, one-dvd, dvd_trans, dvd-add, dvd_antisymm, le_of_dvd, pos_of_dvd_of_pos, mod-eq-zero_of_dvd, dvd_of_mod-eq-zero, mul-div_cancel', mul-div_cancel_left, zero-div, div-le_self, eq-zero_of_zero-dvd, mul-dvd-mul_left}
use Rattle.std.specs.Int.{IsGcd}
use Rattle.std.proofs.lemmas.Int.{unsigned_abs-mul}
use Rattle.std.proofs.lemmas.Nat.Gcd.{IsGcd-from_zero, IsGcd-from_mod}
use Rattle.staat_vec.specs.declared.vector.V3.{V3}
use Rattle.staat_vec.specs.Vectors.{origin, IsWithin}
use Rattle.staat_vec.specs.Primitives.{divides_all, greatest_divisor, content}
use Rattle.staat_vec.proofs.VecRing.{same_vector}

-- the number divides all three components, and each number that does divides it
pub record IsContent (v : V3) (g : ℕ) : Type 0 where
  pub x : g ∣ unsigned_abs v.x
  pub y : g ∣ unsigned_abs v.y
  pub z : g ∣ unsigned_abs v.z
  pub greatest : (d : ℕ) → d ∣ unsigned_abs v.x → d ∣ unsigned_abs v.y → d ∣ unsigned_abs v.z → d ∣ g

pub IsContent-only : (v : V3) (g h : ℕ) → IsContent v g → IsContent v h → g ≡ h
IsContent-only v g h p q = dvd_antisymm (q.greatest g p.x p.y p.z) (p.greatest h q.x q.y q.z)

-- from the divisors of two components, then of those and the third
pub IsContent-from_gcd : (v : V3) (f g : ℕ) → IsGcd (unsigned_abs v.x) (unsigned_abs v.y) f → IsGcd f (unsigned_abs v.z) g → IsContent v g
IsContent-from_gcd v f g p q = record {
  x = dvd_trans g q.0 p.0;
  y = dvd_trans g q.0 p.1;
  z = q.1;
  greatest = λ d dx dy dz. q.2 d (p.2 d dx dy) dz;
}

-- by Euclid's algorithm, in at most as many steps as the second number
gcd_within : (steps a b : ℕ) → b ≤ steps → (g : ℕ) × IsGcd a b g
gcd_within zero a b le = (a, IsGcd-from_zero a b (omega arith))
gcd_within (suc steps) a zero le = (a, IsGcd-from_zero a zero refl)
gcd_within (suc steps) a (suc b) le =
    let small : a % suc b < suc b = mod-lt a (omega arith) in
    let g = gcd_within steps (suc b) (a % suc b) (omega arith) in
    (g.0, IsGcd-from_mod a (suc b) g.0 g.1)

some_content : (v : V3) → (g : ℕ) × IsContent v g
some_content v =
    let f = gcd_within (unsigned_abs v.y) (unsigned_abs v.x) (unsigned_abs v.y) (omega arith) in
    let g = gcd_within (unsigned_abs v.z) f.0 (unsigned_abs v.z) (omega arith) in
    (g.0, IsContent-from_gcd v f.0 g.0 f.1 g.1)

-- ---- the search for the greatest divisor finds the content

three_tests : (a b c : ℕ) → ((a == 0) && (b == 0)) && (c == 0) ≡ true → (a ≡ 0) × (b ≡ 0) × (c ≡ 0)
three_tests a b c e = (grind arith, grind arith, grind arith)

divides_all-true : (d : ℕ) (v : V3) → divides_all d v ≡ true → (d ∣ unsigned_abs v.x) × (d ∣ unsigned_abs v.y) × (d ∣ unsigned_abs v.z)
divides_all-true d v e =
    let t = three_tests (unsigned_abs v.x % d) (unsigned_abs v.y % d) (unsigned_abs v.z % d) e in
    (dvd_of_mod-eq-zero d t.0, dvd_of_mod-eq-zero d t.1, dvd_of_mod-eq-zero d t.2)

divides_all-from : (d : ℕ) (v : V3) → d ∣ unsigned_abs v.x → d ∣ unsigned_abs v.y → d ∣ unsigned_abs v.z → divides_all d v ≡ true
divides_all-from d v p q r = rw (mod-eq-zero_of_dvd d p, mod-eq-zero_of_dvd d q, mod-eq-zero_of_dvd d r) refl

greatest_divisor-divides : (n : ℕ) (v : V3) → divides_all (greatest_divisor (suc n) v) v ≡ true
greatest_divisor-divides zero v = one (divides_all 1 v) refl
  where
    one : (b : Bool) → divides_all 1 v ≡ b → divides_all (if b then 1 else 0) v ≡ true
    one true e = e
    one false e = absurd (cc (divides_all-from 1 v (one-dvd (unsigned_abs v.x)) (one-dvd (unsigned_abs v.y)) (one-dvd (unsigned_abs v.z))))
greatest_divisor-divides (suc n) v = next (divides_all (suc (suc n)) v) refl (greatest_divisor-divides n v)
  where
    next : (b : Bool) → divides_all (suc (suc n)) v ≡ b → divides_all (greatest_divisor (suc n) v) v ≡ true → divides_all (if b then suc (suc n) else greatest_divisor (suc n) v) v ≡ true
    next true e h = e
    next false e h = h

greatest_divisor-greatest : (n d : ℕ) (v : V3) → d ≤ n → divides_all d v ≡ true → d ≤ greatest_divisor n v
greatest_divisor-greatest zero d v le e = le
greatest_divisor-greatest (suc n) d v le e = next (divides_all (suc n) v) refl (λ h. greatest_divisor-greatest n d v h e)
  where
    next : (b : Bool) → divides_all (suc n) v ≡ b → (d ≤ n → d ≤ greatest_divisor n v) → d ≤ (if b then suc n else greatest_divisor n v)
    next true t below = le
    next false t below =
        let other : d ≢ suc n = λ same. cc (ap (λ k. divides_all k v) same) in
        below (omega arith)

zero_from_size : (a : ℤ) → unsigned_abs a ≡ 0 → a ≡ pos 0
zero_from_size (pos n) e = ap pos e
zero_from_size (negsuc n) e = absurd (omega arith)

-- the content is the greatest common divisor
pub content-is : (v : V3) → IsContent v (content v)
unfolding content
content-is v = by_sum (unsigned_abs v.x + unsigned_abs v.y + unsigned_abs v.z) refl
  where
    by_sum : (n : ℕ) → unsigned_abs v.x + unsigned_abs v.y + unsigned_abs v.z ≡ n → IsContent v (greatest_divisor n v)
    by_sum zero e =
        let x : unsigned_abs v.x ≡ 0 = omega arith in
        let y : unsigned_abs v.y ≡ 0 = omega arith in
        let z : unsigned_abs v.z ≡ 0 = omega arith in record {
          x = subst (λ n. 0 ∣ n) (sym x) (dvd-zero 0);
          y = subst (λ n. 0 ∣ n) (sym y) (dvd-zero 0);
          z = subst (λ n. 0 ∣ n) (sym z) (dvd-zero 0);
          greatest = λ d p q r. dvd-zero d;
        }
    by_sum (suc n) e =
        let (g, is) = some_content v in
        let whole : g ∣ suc n = subst (λ k. g ∣ k) e (dvd-add g (dvd-add g is.x is.y) is.z) in
        let some : 0 < suc n = omega arith in
        let below : g ≤ greatest_divisor (suc n) v = greatest_divisor-greatest (suc n) g v (le_of_dvd some whole) (divides_all-from g v is.x is.y is.z) in
        let (x, y, z) = divides_all-true (greatest_divisor (suc n) v) v (greatest_divisor-divides n v) in
        let above : greatest_divisor (suc n) v ≤ g = le_of_dvd (pos_of_dvd_of_pos whole some) (is.greatest (greatest_divisor (suc n) v) x y z) in
        let same : g ≡ greatest_divisor (suc n) v = omega arith in
        subst (IsContent v) same is

pub content-only : (v : V3) (g : ℕ) → IsContent v g → g ≡ content v
content-only v g is = IsContent-only v g (content v) is (content-is v)

-- only the origin has the content 0
pub content-positive : (v : V3) → v ≢ origin → 1 ≤ content v
content-positive v some = by (content v) (content-is v)
  where
    by : (g : ℕ) → IsContent v g → 1 ≤ g
    by zero is = absurd (some (same_vector v origin (zero_from_size v.x (eq-zero_of_zero-dvd is.x)) (zero_from_size v.y (eq-zero_of_zero-dvd is.y)) (zero_from_size v.z (eq-zero_of_zero-dvd is.z))))
    by (suc g) is = omega arith

-- the content of a vector that is not the origin is no greater than a bound of it
pub content-le : (v : V3) (bound : ℕ) → v ≢ origin → IsWithin bound v → content v ≤ bound
content-le v bound some h = by (unsigned_abs v.x) (unsigned_abs v.y) (unsigned_abs v.z) refl refl refl
  where
    by : (x y z : ℕ) → unsigned_abs v.x ≡ x → unsigned_abs v.y ≡ y → unsigned_abs v.z ≡ z → content v ≤ bound
    by zero zero zero ex ey ez = absurd (some (same_vector v origin (zero_from_size v.x ex) (zero_from_size v.y ey) (zero_from_size v.z ez)))
    by (suc x) y z ex ey ez = let le = le_of_dvd {n = unsigned_abs v.x} (omega arith) (content-is v).x in omega (arith, h.x)
    by zero (suc y) z ex ey ez = let le = le_of_dvd {n = unsigned_abs v.y} (omega arith) (content-is v).y in omega (arith, h.y)
    by zero zero (suc z) ex ey ez = let le = le_of_dvd {n = unsigned_abs v.z} (omega arith) (content-is v).z in omega (arith, h.z)

-- ---- negatives, multiples and quotients of one number

pub abs-neg : (a : ℤ) → unsigned_abs (neg_ℤ a) ≡ unsigned_abs a
abs-neg (pos zero) = refl
abs-neg a = refl

pub neg-neg : (a : ℤ) → neg_ℤ (neg_ℤ a) ≡ a
neg-neg (pos zero) = refl
neg-neg a = refl

pub int_div-neg : (a : ℤ) (g : ℕ) → int_div (neg_ℤ a) (pos g) ≡ neg_ℤ (int_div a (pos g))
int_div-neg (pos zero) g = ap pos (zero-div g) ∙ ap (λ n. neg_ℤ (pos n)) (sym (zero-div g))
int_div-neg (pos (suc n)) g = refl
int_div-neg (negsuc n) g = sym (neg-neg (pos (suc n / g)))

pub mul-neg : (k : ℕ) (a : ℤ) → pos k *ℤ neg_ℤ a ≡ neg_ℤ (pos k *ℤ a)
mul-neg k (pos zero) = ap pos (mul-zero k) ∙ ap (λ n. neg_ℤ (pos n)) (sym (mul-zero k))
mul-neg k (pos (suc n)) = refl
mul-neg k (negsuc n) = sym (neg-neg (pos (k * suc n)))

-- a number is its divisor times the quotient
pub mul-int_div : (g : ℕ) (a : ℤ) → g ∣ unsigned_abs a → pos g *ℤ int_div a (pos g) ≡ a
mul-int_div g (pos n) h = ap pos (mul-div_cancel' g h)
mul-int_div g (negsuc n) h = mul-neg g (pos (suc n / g)) ∙ ap (λ k. neg_ℤ (pos k)) (mul-div_cancel' g h)

-- the quotient of a multiple
pub int_div-mul : (k : ℕ) (a : ℤ) → 1 ≤ k → int_div (pos k *ℤ a) (pos k) ≡ a
int_div-mul k (pos n) h = ap pos (mul-div_cancel_left n h)
int_div-mul k (negsuc n) h = int_div-neg (pos (k * suc n)) k ∙ ap (λ m. neg_ℤ (pos m)) (mul-div_cancel_left (suc n) h)

-- a quotient is no greater than the whole
pub abs-int_div_le : (a : ℤ) (g : ℕ) → unsigned_abs (int_div a (pos g)) ≤ unsigned_abs a
abs-int_div_le (pos n) g = div-le_self n g
abs-int_div_le (negsuc n) g = subst (λ k. k ≤ suc n) (sym (abs-neg (pos (suc n / g)))) (div-le_self (suc n) g)

-- a divisor of the quotient, times the divisor, divides the whole
pub mul-divides : (g d : ℕ) (a q : ℤ) → a ≡ pos g *ℤ q → d ∣ unsigned_abs q → g * d ∣ unsigned_abs a
mul-divides g d a q e h = subst (λ n. g * d ∣ n) (sym (ap unsigned_abs e ∙ unsigned_abs-mul (pos g) q)) (mul-dvd-mul_left d g h)
