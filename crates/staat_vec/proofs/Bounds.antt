-- How great sums, differences and products are, and that they fit the machine's signed type.
use Rattle.std.proofs.Common.{◌≡◌, ℕ, ◌+◌, ◌*◌, ◌^◌, ◌<◌, ◌≤◌, ℤ, ◌+ℤ◌, ◌-ℤ◌, ◌*ℤ◌, FitsSigned, to_z, of_z, arith}
use Rattle.std.specs.Prelude.{unsigned_abs}
use Rattle.std.specs.Int.{w128}
use Rattle.std.proofs.lemmas.Int.{ints, fits_signed_from_abs, unsigned_abs-mul, to_z-of_z}
use Rattle.std.proofs.Math.Nat.{mul-le-mul}
use Rattle.staat_vec.specs.declared.vector.V3.{V3}
use Rattle.staat_vec.specs.Vectors.{IsWithin, plus, minus, negative, dot, cross}

pub abs_sum_le : (a b : ℤ) (m n : ℕ) → unsigned_abs a ≤ m → unsigned_abs b ≤ n → unsigned_abs (a +ℤ b) ≤ m + n
abs_sum_le a b m n h k = omega (arith, ints)

pub abs_diff_le : (a b : ℤ) (m n : ℕ) → unsigned_abs a ≤ m → unsigned_abs b ≤ n → unsigned_abs (a -ℤ b) ≤ m + n
abs_diff_le a b m n h k = omega (arith, ints)

pub abs_mul_le : (a b : ℤ) (m n : ℕ) → unsigned_abs a ≤ m → unsigned_abs b ≤ n → unsigned_abs (a *ℤ b) ≤ m * n
abs_mul_le a b m n h k = omega (arith, unsigned_abs-mul a b, mul-le-mul h k)

-- a number below the type's limit fits the type, and is read as it was written
pub fits : (z : ℤ) → unsigned_abs z < 2 ^ 127 → FitsSigned w128 z
fits z h = fits_signed_from_abs w128 z (omega arith)

pub reads : (z : ℤ) → unsigned_abs z < 2 ^ 127 → to_z w128 (of_z w128 z) ≡ z
reads z h = to_z-of_z w128 z (fits z h)

-- for values that went through the machine's signed type
pub ruleset wide = (ints, reads)

-- a wider bound
pub IsWithin-wider : (m n : ℕ) (v : V3) → m ≤ n → IsWithin m v → IsWithin n v
IsWithin-wider m n v h w = record { x = omega arith; y = omega arith; z = omega arith }

pub IsWithin-plus : (m n : ℕ) (a b : V3) → IsWithin m a → IsWithin n b → IsWithin (m + n) (plus a b)
IsWithin-plus m n a b h k = record {
  x = abs_sum_le a.x b.x m n h.x k.x;
  y = abs_sum_le a.y b.y m n h.y k.y;
  z = abs_sum_le a.z b.z m n h.z k.z;
}

pub IsWithin-minus : (m n : ℕ) (a b : V3) → IsWithin m a → IsWithin n b → IsWithin (m + n) (minus a b)
IsWithin-minus m n a b h k = record {
  x = abs_diff_le a.x b.x m n h.x k.x;
  y = abs_diff_le a.y b.y m n h.y k.y;
  z = abs_diff_le a.z b.z m n h.z k.z;
}

pub IsWithin-negative : (n : ℕ) (a : V3) → IsWithin n a → IsWithin n (negative a)
IsWithin-negative n a h = record { x = omega (arith, ints); y = omega (arith, ints); z = omega (arith, ints) }

pub abs_minor_le : (a b c d : ℤ) (m n : ℕ) → unsigned_abs a ≤ m → unsigned_abs b ≤ m → unsigned_abs c ≤ n → unsigned_abs d ≤ n → unsigned_abs ((a *ℤ d) -ℤ (b *ℤ c)) ≤ 2 * (m * n)
abs_minor_le a b c d m n ha hb hc hd =
    let first = abs_mul_le a d m n ha hd in
    let second = abs_mul_le b c m n hb hc in
    let both = abs_diff_le (a *ℤ d) (b *ℤ c) (m * n) (m * n) first second in
    omega arith

pub IsWithin-cross : (m n : ℕ) (a b : V3) → IsWithin m a → IsWithin n b → IsWithin (2 * (m * n)) (cross a b)
IsWithin-cross m n a b h k = record {
  x = abs_minor_le a.y a.z b.y b.z m n h.y h.z k.y k.z;
  y = abs_minor_le a.z a.x b.z b.x m n h.z h.x k.z k.x;
  z = abs_minor_le a.x a.y b.x b.y m n h.x h.y k.x k.y;
}

pub abs_dot_le : (m n : ℕ) (a b : V3) → IsWithin m a → IsWithin n b → unsigned_abs (dot a b) ≤ 3 * (m * n)
abs_dot_le m n a b h k =
    let x = abs_mul_le a.x b.x m n h.x k.x in
    let y = abs_mul_le a.y b.y m n h.y k.y in
    let z = abs_mul_le a.z b.z m n h.z k.z in
    let two = abs_sum_le (a.x *ℤ b.x) (a.y *ℤ b.y) (m * n) (m * n) x y in
    let three = abs_sum_le ((a.x *ℤ b.x) +ℤ (a.y *ℤ b.y)) (a.z *ℤ b.z) (m * n + m * n) (m * n) two z in
    omega arith
