-- Decimal numerals with a point and an exponent, and how a word is taken apart into one.
use Rattle.std.specs.Prelude.{◌≡◌, ◌≤◌, ◌+◌, ◌==◌, ◌&&◌, ◌||◌, ℕ, Bool, true, false}
use Rattle.std.specs.Prelude.{nat_lt, List, [], ◌∷◌, length}
use Rattle.std.specs.Prelude.{take, drop, Option, Some, None, if◌then◌else◌, option_map}
use Rattle.std.specs.Char.{is_ascii_digit}
use Rattle.std.specs.List.{list_all, prefix_len}
use Rattle.staat_off.specs.declared.numeral.TheConstants.{LONGEST_NUMBER}

-- a decimal numeral
pub record Numeral : Type 0 where
  -- a minus stands in front
  pub is_negative : Bool
  -- the digits before and behind the point
  pub whole : List ℕ
  pub fraction : List ℕ
  -- a minus stands before the exponent
  pub is_down : Bool
  -- the digits of the exponent
  pub exponent : List ℕ

-- its parts are digits, and few enough for a word
pub record IsNumeral (n : Numeral) : Type 0 where
  pub whole : list_all is_ascii_digit n.whole ≡ true
  pub fraction : list_all is_ascii_digit n.fraction ≡ true
  pub exponent : list_all is_ascii_digit n.exponent ≡ true
  pub short : length n.whole + length n.fraction ≤ LONGEST_NUMBER

-- the digits in front
abbrev pub digits_in : List ℕ → List ℕ
digits_in bs = take (prefix_len is_ascii_digit bs) bs

-- what follows them
abbrev pub after_digits : List ℕ → List ℕ
after_digits bs = drop (prefix_len is_ascii_digit bs) bs

-- at least one
abbrev pub is_nonempty : List ℕ → Bool
is_nonempty bs = nat_lt 0 (length bs)

-- digits and nothing else
abbrev pub are_digits : List ℕ → Bool
are_digits bs = is_nonempty bs && list_all is_ascii_digit bs

-- whether a minus stands in front
abbrev pub is_minus_first : List ℕ → Bool
is_minus_first [] = false
is_minus_first (b ∷ bs) = b == 45

-- what follows a sign, where one stands in front
abbrev pub after_sign : List ℕ → List ℕ
after_sign [] = []
after_sign (b ∷ bs) = if b == 45 || b == 43 then bs else b ∷ bs

-- the digits behind a point, where one stands in front
abbrev pub fraction_in : List ℕ → List ℕ
fraction_in [] = []
fraction_in (b ∷ bs) = if b == 46 then digits_in bs else []

-- what follows the point and them
abbrev pub after_fraction : List ℕ → List ℕ
after_fraction [] = []
after_fraction (b ∷ bs) = if b == 46 then after_digits bs else b ∷ bs

-- whether a minus stands before the exponent's digits, and those digits, where they are all that is left
unfoldable pub exponent_of : List ℕ → Option (Bool × List ℕ)
exponent_of [] = Some (false, [])
exponent_of (b ∷ bs) =
    if (b == 101 || b == 69) && are_digits (after_sign bs) then Some (is_minus_first bs, after_sign bs) else None

-- a numeral with its exponent
abbrev pub numeral_with : Bool → List ℕ → List ℕ → Bool × List ℕ → Numeral
numeral_with is_negative whole fraction exponent = record {
  is_negative = is_negative;
  whole = whole;
  fraction = fraction;
  is_down = exponent.0;
  exponent = exponent.1;
}

-- a numeral with a digit before or behind the point, where what is left is its exponent
abbrev pub mantissa_of : Bool → List ℕ → List ℕ → List ℕ → Option Numeral
mantissa_of is_negative whole fraction rest =
    if is_nonempty whole || is_nonempty fraction then option_map (numeral_with is_negative whole fraction)
    (exponent_of rest) else None

-- the numeral behind the sign
unfoldable pub unsigned_of : Bool → List ℕ → Option Numeral
unsigned_of is_negative bs =
    mantissa_of is_negative (digits_in bs) (fraction_in (after_digits bs)) (after_fraction (after_digits bs))

-- the numeral that a word spells, where it is not too long
unfoldable pub numeral_of : List ℕ → Option Numeral
numeral_of word =
    if nat_lt LONGEST_NUMBER (length word) then None else unsigned_of (is_minus_first word) (after_sign word)
