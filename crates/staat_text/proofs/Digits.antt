-- The decimal text of a number of one digit or more, digit by digit.
use Rattle.std.proofs.Common.{◌≡◌, ◌++◌, ◌∷◌, ◌+◌, ◌/◌, ◌%◌, ◌^◌, ◌<◌, ◌≤◌, ℕ, List, [], ap, sym, ◌∙◌, arith, append_assoc, decimal}
use Rattle.std.proofs.lemmas.Fmt.{decimal_digit, decimal_step_wide}

pub one_digit : (old : List ℕ) (n : ℕ) → n < 10 → old ++ (48 + n % 10) ∷ [] ≡ old ++ decimal n
one_digit old n small =
    let same : n % 10 ≡ n = omega arith in
    ap (λ d. old ++ (48 + d) ∷ []) same ∙ ap (λ l. old ++ l) (sym (decimal_digit n small))

pub one_digit_more : (old : List ℕ) (n : ℕ) → 10 ≤ n → n < 10 ^ 64 → (old ++ decimal (n / 10)) ++ (48 + n % 10) ∷ [] ≡ old ++ decimal n
one_digit_more old n big wide = append_assoc old (decimal (n / 10)) ((48 + n % 10) ∷ []) ∙ ap (λ l. old ++ l) (sym (decimal_step_wide n big wide))
