-- The value of a numeral, scaled by a power of ten, by its equation.
use Rattle.std.specs.Prelude.{◌≡◌, ◌+◌, ◌-◌, ◌*◌, ◌^◌, ◌<◌, ◌≤◌, ◌++◌, ℕ, ℤ}
use Rattle.std.specs.Prelude.{pos, neg_ℤ, Bool, length, Result, Ok}
use Rattle.std.specs.Prelude.{Err, if◌then◌else◌}
use Rattle.std.specs.Str.Parse.{digits_value}
use Rattle.staat_vec.specs.declared.vector.TheConstants.{POINT}
use Rattle.staat_off.specs.declared.refusal.OffRefusal.{OffRefusal}
use Rattle.staat_off.specs.declared.refusal.OffRefusal.TheVariants.{NotWhole, TooBig}
use Rattle.staat_off.specs.Numerals.{Numeral}

-- the number that the digits before and behind the point form when they are written together
abbrev pub digits_of : Numeral → ℕ
digits_of n = digits_value 10 (n.whole ++ n.fraction)

-- by how many places the exponent and a scale of 10 ^ k move the point to the right
abbrev pub up : Numeral → ℕ → ℕ
up n k = if n.is_down then k - digits_value 10 n.exponent else digits_value 10 n.exponent + k

-- and to the left
abbrev pub down : Numeral → ℕ → ℕ
down n k = if n.is_down then digits_value 10 n.exponent - k else 0

-- v is the numeral times 10 ^ k, but for its sign
unfoldable pub IsMagnitude : Numeral → ℕ → ℕ → Type 0
IsMagnitude n k v = v * 10 ^ length n.fraction * 10 ^ down n k ≡ digits_of n * 10 ^ up n k

-- the number with that sign
abbrev pub signed : Bool → ℕ → ℤ
signed is_negative v = if is_negative then neg_ℤ (pos v) else pos v

-- what is decided on a numeral at that offset: its value; or that no whole number is; or that it exceeds POINT
abbrev pub IsValueOf : ℕ → Numeral → ℕ → Result ℤ OffRefusal → Type 0
IsValueOf k n at (Ok z) = (v : ℕ) × IsMagnitude n k v × (v ≤ POINT) × (z ≡ signed n.is_negative v)
IsValueOf k n at (Err (NotWhole place)) = (place ≡ at) × ((v : ℕ) → IsMagnitude n k v → ⊥)
IsValueOf k n at (Err (TooBig place)) = (place ≡ at) × ((v : ℕ) × IsMagnitude n k v × (POINT < v))
IsValueOf k n at (Err other) = ⊥
