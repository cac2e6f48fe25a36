-- Decimal texts: the value that is read back, and how long one is.
use Rattle.std.proofs.Common.{decimal, ℕ, ◌<◌, ◌^◌, ◌≡◌, arith, length, negsuc, pos, suc, ℤ, ◌≤◌}
use Rattle.std.proofs.lemmas.Fmt.{decimal_is_IsNumeral_wide, length-decimal-le_wide}
use Rattle.std.specs.Str.Parse.{digits_value}
use Rattle.std.specs.Fmt.{signed_decimal}
use Rattle.std.specs.Prelude.{unsigned_abs}

pub decimal_value : (n : ℕ) → n < 10 ^ 64 → digits_value 10 (decimal n) ≡ n
decimal_value n small = (decimal_is_IsNumeral_wide n small).1

pub signed_decimal_length : (z : ℤ) → unsigned_abs z ≤ 2 ^ 81 → length (signed_decimal z) ≤ 26
signed_decimal_length (pos n) small =
    let long : length (decimal n) ≤ 25 = length-decimal-le_wide 25 n (omega arith) (omega (arith, small)) (omega (arith, small)) in
    omega (arith, long)
signed_decimal_length (negsuc n) small =
    let long : length (decimal (suc n)) ≤ 25 = length-decimal-le_wide 25 (suc n) (omega arith) (omega (arith, small)) (omega (arith, small)) in
    omega (arith, long)
