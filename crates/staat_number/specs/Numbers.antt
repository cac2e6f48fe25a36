-- Whole numbers as texts spell them, computed.
use Rattle.std.specs.Prelude.{◌==◌, ◌&&◌, ℕ, nat_le, List, ℤ, pos, neg_ℤ}
use Rattle.std.specs.Prelude.{Option, Some, None, if◌then◌else◌, option_map, option_and_then}
use Rattle.std.specs.Str.{all_ascii_digits}
use Rattle.std.specs.Str.Parse.{digits_value}
use Rattle.staat_number.specs.Spelling.{after_minus, is_plain_front}

-- the number of at most `most` that the digits spell
unfoldable pub natural_within : ℕ → List ℕ → Option ℕ
natural_within most ds =
    if is_plain_front ds && (all_ascii_digits ds && nat_le (digits_value 10 ds) most)
    then Some (digits_value 10 ds)
    else None

-- the number below 0 of that size: there is no -0
abbrev pub negated : ℕ → Option ℤ
negated n = if n == 0 then None else Some (neg_ℤ (pos n))

abbrev pub integer_from : Option (List ℕ) → ℕ → List ℕ → Option ℤ
integer_from (Some digits) most text = option_and_then negated (natural_within most digits)
integer_from None most text = option_map pos (natural_within most text)

-- the number of at most `most` in absolute value that the text spells
unfoldable pub integer_within : ℕ → List ℕ → Option ℤ
integer_within most text = integer_from (after_minus text) most text
