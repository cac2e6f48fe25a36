-- Vectors as words spell them: three numbers, parted by single commas, not all 0.
use Rattle.std.specs.Prelude.{◌==◌, ◌&&◌, ℕ, pos, Bool, nat_lt, List, length, Option, Some, None}
use Rattle.std.specs.Prelude.{if◌then◌else◌}
use Rattle.std.specs.Prelude.{option_and_then}
use Rattle.std.specs.List.{before_first, after_first, position_or_len}
use Rattle.std.specs.Ordering.{int_eq}
use Rattle.staat_vec.specs.declared.vector.V3.{V3}
use Rattle.staat_vec.specs.Vectors.{vector}
use Rattle.staat_number.specs.Numbers.{integer_within}

infixl 10 ◌>>=◌
abbrev pub ◌>>=◌ : {A B : Type 0} → Option A → (A → Option B) → Option B
o >>= f = option_and_then f o

abbrev pub is_comma : ℕ → Bool
is_comma b = b == 44

-- what stands before the first comma, and what stands after it
unfoldable pub halves_at_comma : List ℕ → Option (List ℕ × List ℕ)
halves_at_comma text =
    if nat_lt (position_or_len is_comma text) (length text) then
    Some (before_first is_comma text, after_first is_comma text)
    else None

abbrev pub nonzero : V3 → Option V3
nonzero v = if int_eq v.x (pos 0) && (int_eq v.y (pos 0) && int_eq v.z (pos 0)) then None else Some v

-- three numbers of at most `most` in absolute value, parted by single commas, that are not all 0
unfoldable pub vector_within : ℕ → List ℕ → Option V3
vector_within most text = do
  front ← halves_at_comma text
  back ← halves_at_comma front.1
  x ← integer_within most front.0
  y ← integer_within most back.0
  z ← integer_within most back.1
  nonzero (vector x y z)
