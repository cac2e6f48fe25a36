-- The decimal text of whole numbers: bytes above a blank, few of them, and no text of two numbers.
use Rattle.std.proofs.Common.{◌≡◌, ℕ, suc, ◌+◌, ◌^◌, ◌<◌, ◌≤◌, List, ◌∷◌, length, All, ap, sym, subst, ◌∙◌, arith, decimal, ℤ, pos, negsuc, unsigned_abs}
use Rattle.std.specs.Fmt.{signed_decimal}
use Rattle.std.specs.Str.Parse.{AllDigits, digits_value}
use Rattle.std.proofs.lemmas.Fmt.{decimal_is_IsNumeral_wide, length-decimal-le_wide}
use Rattle.std.proofs.lemmas.List.{get_or_default}
use Rattle.std.proofs.lemmas.List.Elements.{All-cons, All-head, All-weaker}
use Rattle.std.proofs.lemmas.Str.Parse.{digit_at}
use Rattle.staat_vec.proofs.Decimals.{decimal_value}

-- small enough for the lemmas on digits
abbrev pub IsSmall : ℤ → Type 0
IsSmall z = unsigned_abs z < 10 ^ 64

pub digits_high : (ds : List ℕ) → AllDigits 10 ds → All (λ b. 48 ≤ b) ds
digits_high ds all = λ k d lt. subst (λ b. 48 ≤ b) (get_or_default ds k 0 d lt) (digit_at ds k all lt).0

pub decimal_high : (n : ℕ) → n < 10 ^ 64 → All (λ b. 48 ≤ b) (decimal n)
decimal_high n small = digits_high (decimal n) (decimal_is_IsNumeral_wide n small).0.1

pub signed_plain : (z : ℤ) → IsSmall z → All (λ b. 32 < b) (signed_decimal z)
signed_plain (pos n) small = All-weaker (λ b. 48 ≤ b) (λ b. 32 < b) (λ b h. omega arith) (decimal n) (decimal_high n small)
signed_plain (negsuc n) small = All-cons (λ b. 32 < b) 45 (decimal (suc n)) (omega arith) (All-weaker (λ b. 48 ≤ b) (λ b. 32 < b) (λ b h. omega arith) (decimal (suc n)) (decimal_high (suc n) small))

pub decimal_same : (m n : ℕ) → m < 10 ^ 64 → n < 10 ^ 64 → decimal m ≡ decimal n → m ≡ n
decimal_same m n a b e = sym (decimal_value m a) ∙ ap (digits_value 10) e ∙ decimal_value n b

pub no_minus : (n : ℕ) (ds : List ℕ) → n < 10 ^ 64 → decimal n ≡ 45 ∷ ds → ⊥
no_minus n ds small e = let high : 48 ≤ 45 = All-head (λ b. 48 ≤ b) 45 ds (subst (All (λ b. 48 ≤ b)) e (decimal_high n small)) in absurd (omega arith)

pub signed_same : (y z : ℤ) → IsSmall y → IsSmall z → signed_decimal y ≡ signed_decimal z → y ≡ z
signed_same (pos m) (pos n) a b e = ap pos (decimal_same m n a b e)
signed_same (pos m) (negsuc n) a b e = absurd (no_minus m (decimal (suc n)) a e)
signed_same (negsuc m) (pos n) a b e = absurd (no_minus n (decimal (suc m)) b (sym e))
signed_same (negsuc m) (negsuc n) a b e =
    let digits : decimal (suc m) ≡ decimal (suc n) = cc in
    let same : suc m ≡ suc n = decimal_same (suc m) (suc n) a b digits in
    ap negsuc (omega arith)

-- k digits at most, and one byte for a minus
pub natural_length : (k n : ℕ) → 0 < k → n < 10 ^ k → n < 10 ^ 64 → length (signed_decimal (pos n)) ≤ k
natural_length k n some h wide = length-decimal-le_wide k n some h wide

pub signed_length : (k : ℕ) (z : ℤ) → 0 < k → unsigned_abs z < 10 ^ k → IsSmall z → length (signed_decimal z) ≤ k + 1
signed_length k (pos n) some h wide = omega (arith, length-decimal-le_wide k n some h wide)
signed_length k (negsuc n) some h wide = omega (arith, length-decimal-le_wide k (suc n) some h wide)
