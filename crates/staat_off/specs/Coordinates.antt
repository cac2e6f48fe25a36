-- The decision on a coordinate, by division. That it is the one of the value's equation is a law.
use Rattle.std.specs.Prelude.{◌==◌, ◌+◌, ◌*◌, ◌/◌, ◌%◌, ◌^◌, ℕ, ℤ, Bool, nat_le, length}
use Rattle.std.specs.Prelude.{Option, Some, None, Result}
use Rattle.std.specs.Prelude.{Ok, Err, if◌then◌else◌}
use Rattle.staat_vec.specs.declared.vector.TheConstants.{POINT}
use Rattle.staat_off.specs.declared.refusal.OffRefusal.{OffRefusal}
use Rattle.staat_off.specs.declared.refusal.OffRefusal.TheVariants.{BadNumber, NotWhole, TooBig}
use Rattle.staat_off.specs.Numerals.{Numeral, numeral_of}
use Rattle.staat_off.specs.Values.{digits_of, down, signed, up}
use Rattle.staat_off.specs.Words.{Word}

-- the digits, with the point moved to the right
abbrev pub numerator : Numeral → ℕ → ℕ
numerator n k = digits_of n * 10 ^ up n k

-- the power of ten by which they are divided
abbrev pub denominator : Numeral → ℕ → ℕ
denominator n k = 10 ^ (length n.fraction + down n k)

-- the number with its sign, where it is not too big
abbrev pub within_limit : Bool → ℕ → ℕ → Result ℤ OffRefusal
within_limit is_negative v at = if nat_le v POINT then Ok (signed is_negative v) else Err (TooBig at)

-- the quotient, where there is no remainder
abbrev pub quotient_of : ℕ → Numeral → ℕ → Result ℤ OffRefusal
quotient_of k n at =
    if numerator n k % denominator n k == 0 then within_limit n.is_negative (numerator n k / denominator n k) at
    else Err (NotWhole at)

-- the decision, where the word spells a numeral
abbrev pub decision_of : ℕ → Option Numeral → ℕ → Result ℤ OffRefusal
decision_of k None at = Err (BadNumber at)
decision_of k (Some n) at = quotient_of k n at

-- the whole number that a word spells, times 10 ^ k, or the refusal
unfoldable pub coordinate_of : ℕ → Word → Result ℤ OffRefusal
coordinate_of k word = decision_of k (numeral_of word.text) word.at
