-- How a word spells a decimal numeral.
use Rattle.std.specs.Prelude.{◌≡◌, ◌≤◌, ◌+◌, ◌⊎◌, ◌++◌, Bool, true, false, List, ℕ, []}
use Rattle.std.specs.Prelude.{length, codes}
use Rattle.staat_off.specs.declared.numeral.TheConstants.{LONGEST_NUMBER}
use Rattle.staat_off.specs.Numerals.{IsNumeral, Numeral}

-- a minus, or else a plus or nothing
abbrev pub IsSign : Bool → List ℕ → Type 0
IsSign is_minus text = ((is_minus ≡ true) × (text ≡ codes "-"))
    ⊎ ((is_minus ≡ false) × ((text ≡ codes "+") ⊎ (text ≡ [])))

-- no point and no digits behind it, but a digit before; or a point, and a digit on one of its sides
abbrev pub IsPoint : List ℕ → List ℕ → List ℕ → Type 0
IsPoint whole fraction text = ((text ≡ []) × (fraction ≡ []) × (1 ≤ length whole))
    ⊎ ((text ≡ codes ".") × (1 ≤ length whole + length fraction))

-- no exponent; or `e` or `E`, a sign, and at least one digit
abbrev pub IsPower : Bool → List ℕ → List ℕ → Type 0
IsPower is_down exponent text = ((text ≡ []) × (is_down ≡ false) × (exponent ≡ []))
    ⊎ ((sign : List ℕ) × IsSign is_down sign × (1 ≤ length exponent)
    × ((text ≡ codes "e" ++ (sign ++ exponent)) ⊎ (text ≡ codes "E" ++ (sign ++ exponent))))

-- a sign, digits, a point, digits and an exponent, and no more bytes than a number may have
pub record Spells (word : List ℕ) (n : Numeral) : Type 0 where
  pub sign : List ℕ
  pub point : List ℕ
  pub power : List ℕ
  pub digits : IsNumeral n
  pub is_sign : IsSign n.is_negative sign
  pub is_point : IsPoint n.whole n.fraction point
  pub is_power : IsPower n.is_down n.exponent power
  pub whole : word ≡ sign ++ (n.whole ++ (point ++ (n.fraction ++ power)))
  pub short : length word ≤ LONGEST_NUMBER
