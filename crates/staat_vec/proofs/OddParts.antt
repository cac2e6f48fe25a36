-- Odd parts of numbers, and the greatest common divisor by them.
use Rattle.std.proofs.Common.{◌≡◌, ◌⊎◌, inl, inr, ℕ, zero, suc, ◌+◌, ◌*◌, ◌-◌, ◌/◌, ◌%◌, ◌^◌, ◌<◌, ◌≤◌, sym, ap, subst, ◌∙◌, arith, min}
use Prim.Native.Nat.{◌∣◌}
use native.Mathlib.Nat.{dvd-add_iff_left, dvd-mul_left_of_dvd, dvd-mul_right_of_dvd, dvd-mul_right, dvd_trans, dvd_of_mul-dvd-mul_left, mul-dvd-mul_left, mod-eq-zero_of_dvd, dvd_of_mod-eq-zero, one-dvd, mul_comm, mul_assoc}
use Rattle.std.proofs.Math.Nat.{pow-suc, mul-one, min-eq_left, min-eq_right}
use Rattle.std.proofs.lemmas.Bool.{cases_lt}
use Rattle.std.specs.Int.{IsGcd, bit_at}
use Rattle.std.proofs.lemmas.Nat.{shr-shr, pow-add}
use Rattle.std.proofs.lemmas.Nat.Gcd.{IsGcd-swap, IsGcd-from_sub}

-- ---- the odd part

-- a number whose lowest bits are 0 is a multiple of the power of two above them
pub multiple_from_bits : (t n : ℕ) → ((i : ℕ) → i < t → bit_at n i ≡ 0) → n ≡ n / 2 ^ t * 2 ^ t
multiple_from_bits zero n h = omega arith
multiple_from_bits (suc t) n h =
    let q = n / 2 ^ t in
    let low = multiple_from_bits t n (λ i below. h i (omega arith)) in
    let even : q % 2 ≡ 0 = h t (omega arith) in
    let next : n / 2 ^ suc t ≡ q / 2 = ap (λ k. n / 2 ^ k) (omega arith) ∙ sym (shr-shr n t 1) in
    let halves : q ≡ q / 2 * 2 = omega arith in
    low ∙ ap (λ k. k * 2 ^ t) halves ∙ mul_assoc (q / 2) 2 (2 ^ t) ∙ ap (λ k. q / 2 * k) (mul_comm 2 (2 ^ t) ∙ sym (pow-suc 2 t)) ∙ ap (λ k. k * 2 ^ suc t) (sym next)

-- ---- divisors of odd numbers

-- an odd divisor of the double divides the number
odd_divides : (d y : ℕ) → d % 2 ≡ 1 → d ∣ 2 * y → d ∣ y
odd_divides d y odd h =
    let e = d / 2 in
    let halves : d ≡ 2 * e + 1 = omega arith in
    let sum : d * y ≡ y + e * (2 * y) = ap (λ k. k * y) halves ∙ grind arith in
    (dvd-add_iff_left d {m = y} {n = e * (2 * y)} (dvd-mul_left_of_dvd d h e)).1 (subst (λ k. d ∣ k) sum (dvd-mul_right d y))

double : (y k : ℕ) → y * 2 ^ suc k ≡ 2 * (y * 2 ^ k)
double y k = ap (λ n. y * n) (pow-suc 2 k) ∙ sym (mul_assoc y (2 ^ k) 2) ∙ mul_comm (y * 2 ^ k) 2

odd_divides_power : (k d y : ℕ) → d % 2 ≡ 1 → d ∣ y * 2 ^ k → d ∣ y
odd_divides_power zero d y odd h = subst (λ n. d ∣ n) (omega arith) h
odd_divides_power (suc k) d y odd h = odd_divides_power k d y odd (odd_divides d (y * 2 ^ k) odd (subst (λ n. d ∣ n) (double y k) h))

by_parity : (d : ℕ) → (d % 2 ≡ 0) ⊎ (d % 2 ≡ 1)
by_parity d = grind arith

odd_divisor : (d m : ℕ) → m % 2 ≡ 1 → d ∣ m → d % 2 ≡ 1
odd_divisor d m odd h = elim (by_parity d) [
  | inl even ↦ let none : m % 2 ≡ 0 = mod-eq-zero_of_dvd 2 (dvd_trans 2 (dvd_of_mod-eq-zero 2 even) h) in absurd (omega arith)
  | inr e ↦ e
]

-- ---- the greatest common divisor

pub IsGcd-one : (b : ℕ) → IsGcd 1 b 1
IsGcd-one b = (one-dvd 1, one-dvd b, λ d p q. p)

-- that of an odd number and another keeps as the other is doubled
pub IsGcd-odd : (m n g k : ℕ) → m % 2 ≡ 1 → IsGcd m n g → IsGcd m (n * 2 ^ k) g
IsGcd-odd m n g k odd h = (
  h.0,
  dvd-mul_right_of_dvd g h.1 (2 ^ k),
  λ d p q. h.2 d p (odd_divides_power k d n (odd_divisor d m odd p) q),
)

IsGcd-double : (a b g : ℕ) → IsGcd a b g → IsGcd (2 * a) (2 * b) (2 * g)
IsGcd-double a b g h = (
  mul-dvd-mul_left g 2 h.0,
  mul-dvd-mul_left g 2 h.1,
  λ d p q. elim (by_parity d) [
    | inl even ↦
        let e = d / 2 in
        let whole : d ≡ 2 * e = omega arith in
        let two : 0 < 2 = omega arith in
        let first = dvd_of_mul-dvd-mul_left {k = 2} e two (subst (λ n. n ∣ 2 * a) whole p) in
        let second = dvd_of_mul-dvd-mul_left {k = 2} e two (subst (λ n. n ∣ 2 * b) whole q) in
        subst (λ n. n ∣ 2 * g) (sym whole) (mul-dvd-mul_left e 2 (h.2 e first second))
    | inr odd ↦ dvd-mul_left_of_dvd d (h.2 d (odd_divides d a odd p) (odd_divides d b odd q)) 2
  ],
)

IsGcd-scaled : (k a b g : ℕ) → IsGcd a b g → IsGcd (a * 2 ^ k) (b * 2 ^ k) (g * 2 ^ k)
IsGcd-scaled zero a b g h = rw (mul-one a, mul-one b, mul-one g) h
IsGcd-scaled (suc k) a b g h = rw (double a k, double b k, double g k) (IsGcd-double (a * 2 ^ k) (b * 2 ^ k) (g * 2 ^ k) (IsGcd-scaled k a b g h))

IsGcd-rise : (m n g i j : ℕ) → m % 2 ≡ 1 → i ≤ j → IsGcd m n g → IsGcd (m * 2 ^ i) (n * 2 ^ j) (g * 2 ^ i)
IsGcd-rise m n g i j odd le h =
    let apart : n * 2 ^ (j - i) * 2 ^ i ≡ n * 2 ^ j = mul_assoc n (2 ^ (j - i)) (2 ^ i) ∙ ap (λ k. n * k) (sym (pow-add 2 (j - i) i) ∙ ap (λ k. 2 ^ k) (omega arith)) in
    subst (λ b. IsGcd (m * 2 ^ i) b (g * 2 ^ i)) apart (IsGcd-scaled i m (n * 2 ^ (j - i)) g (IsGcd-odd m n g (j - i) odd h))

-- that of two numbers, by their odd parts
pub IsGcd-by_odd_parts : (a b m n g i j t : ℕ) → a ≡ m * 2 ^ i → b ≡ n * 2 ^ j → t ≡ min i j → m % 2 ≡ 1 → n % 2 ≡ 1 → IsGcd m n g → IsGcd a b (g * 2 ^ t)
IsGcd-by_odd_parts a b m n g i j t ea eb et m_odd n_odd h = elim (cases_lt j i) [
  | inl lt ↦
      let le : j ≤ i = omega arith in
      rw (ea, eb, et, min-eq_right le) (IsGcd-swap _ _ _ (IsGcd-rise n m g j i n_odd le (IsGcd-swap m n g h)))
  | inr le ↦ rw (ea, eb, et, min-eq_left le) (IsGcd-rise m n g i j m_odd le h)
]

-- steps by a difference of odd parts
pub step_to_lesser : (x z g k : ℕ) → x % 2 ≡ 1 → x < z → IsGcd x (z - x) g → IsGcd x (z * 2 ^ k) g
step_to_lesser x z g k odd below h =
    IsGcd-odd x z g k odd (IsGcd-swap z x g (IsGcd-from_sub z x g (omega arith) (IsGcd-swap x (z - x) g h)))

pub step_from_greater : (x z g k : ℕ) → x % 2 ≡ 1 → z ≤ x → IsGcd z (x - z) g → IsGcd x (z * 2 ^ k) g
step_from_greater x z g k odd le h =
    IsGcd-odd x z g k odd (IsGcd-from_sub x z g le (IsGcd-swap z (x - z) g h))
