-- The primitive vector on a ray, and the canonical one of two opposite vectors.
use Rattle.std.specs.Prelude.{ℕ, zero, suc, ◌+◌, ◌%◌, ◌≤◌, ℤ, pos, ◌<ℤ◌, int_lt, int_div}
use Rattle.std.specs.Prelude.{unsigned_abs, ◌≡◌, Bool, ◌==◌}
use Rattle.std.specs.Prelude.{◌&&◌, if◌then◌else◌}
use Prim.Native.Nat.{◌∣◌}
use Rattle.staat_vec.specs.declared.vector.V3.{V3}
use Rattle.staat_vec.specs.Vectors.{vector, negative, times}

-- no common divisor of the components but 1
abbrev pub IsPrimitive : V3 → Type 0
IsPrimitive v = (d : ℕ) → d ∣ unsigned_abs v.x → d ∣ unsigned_abs v.y → d ∣ unsigned_abs v.z → d ≡ 1

-- p is primitive, and v is a positive multiple of it
pub record IsPrimitiveOf (v p : V3) : Type 0 where
  pub factor : ℕ
  pub positive : 1 ≤ factor
  pub multiple : v ≡ times factor p
  pub primitive : IsPrimitive p

-- whether the number divides all three components
abbrev pub divides_all : ℕ → V3 → Bool
divides_all d v = (unsigned_abs v.x % d == 0) && (unsigned_abs v.y % d == 0) && (unsigned_abs v.z % d == 0)

-- the greatest of the numbers 1 to n that divide all three components, and 0 where n is 0
abbrev pub greatest_divisor : ℕ → V3 → ℕ
greatest_divisor zero v = 0
greatest_divisor (suc n) v = if divides_all (suc n) v then suc n else greatest_divisor n v

-- the greatest common divisor of the components, and 0 for the origin
unfoldable pub content : V3 → ℕ
content v = greatest_divisor (unsigned_abs v.x + unsigned_abs v.y + unsigned_abs v.z) v

-- the vector divided by its content
unfoldable pub primitive : V3 → V3
primitive v = let n : ℤ = pos (content v) in vector (int_div v.x n) (int_div v.y n) (int_div v.z n)

-- the number, or the next where it is 0
abbrev pub or_next : ℤ → ℤ → ℤ
or_next (pos zero) next = next
or_next a next = a

-- the first component that is not 0, and 0 for the origin
abbrev pub first_nonzero : V3 → ℤ
first_nonzero v = or_next v.x (or_next v.y v.z)

-- the first component that is not 0 is positive
abbrev pub IsCanon : V3 → Type 0
IsCanon v = pos 0 <ℤ first_nonzero v

-- the vector or its negative, whichever has its first nonzero component positive
unfoldable pub canon : V3 → V3
canon v = if int_lt (pos 0) (first_nonzero v) then v else negative v
