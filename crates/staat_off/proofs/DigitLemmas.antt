-- Digits, one by one, and the number that they write.
use Rattle.std.proofs.Common.{◌≡◌, ◌<◌, ◌≤◌, ◌+◌, ◌*◌, ◌^◌, ◌++◌, ℕ, zero, suc, Bool, true, List, [], ◌∷◌, length, take, get_or, get_or-take, ap, ◌∙◌, refl, arith, rules, tests, lit<}
use Rattle.std.specs.Char.{digit_value, is_ascii_digit}
use Rattle.std.specs.Int.{IsInRange}
use Rattle.std.specs.List.{list_all, prefix_len}
use Rattle.std.specs.Str.Parse.{AllDigits, digits_value, digits_value_after}
use Rattle.std.proofs.Math.Nat.{pow-le-pow_right}
use Rattle.std.proofs.lemmas.Int.Digits.{digits_value-lt}
use Rattle.std.proofs.lemmas.Str.{digit_value_digit}
use Rattle.std.proofs.lemmas.List.Folds.{length-prefix_len}
use Rattle.std.proofs.lemmas.List.Sums.{AllPass-from_list_all, list_all-from_AllPass, prefix_len_passes}
use Rattle.staat_vec.proofs.Truth.{and_split}

pub digit_is : (d : ℕ) → is_ascii_digit d ≡ true → (48 ≤ d) × (d ≤ 57) × (digit_value d + 48 ≡ d)
digit_is d e =
    let range : IsInRange 48 57 d = search (rules, tests) in
    (range.0, range.1, digit_value_digit d range)

-- the digit at a place of digits
pub digit_there : (ds : List ℕ) (i : ℕ) → list_all is_ascii_digit ds ≡ true → i < length ds → (48 ≤ get_or ds i 0) × (get_or ds i 0 ≤ 57) × (digit_value (get_or ds i 0) + 48 ≡ get_or ds i 0)
digit_there ds i all lt = digit_is (get_or ds i 0) (AllPass-from_list_all is_ascii_digit ds all i 0 lt)

-- one digit more behind those that follow n
pub after_more : (n : ℕ) (ds : List ℕ) (i : ℕ) → i < length ds → digits_value_after 10 n (take (i + 1) ds) ≡ digits_value_after 10 n (take i ds) * 10 + digit_value (get_or ds i 0)
after_more n [] i lt = absurd (omega arith)
after_more n (d ∷ ds) zero lt = refl
after_more n (d ∷ ds) (suc i) lt =
    let more : suc i + 1 ≡ suc (i + 1) = omega arith in
    rw more (after_more (n * 10 + digit_value d) ds i (omega arith))

-- digits behind those that follow n
pub after-append : (n : ℕ) (ds es : List ℕ) → digits_value_after 10 (digits_value_after 10 n ds) es ≡ digits_value_after 10 n (ds ++ es)
after-append n [] es = refl
after-append n (d ∷ ds) es = after-append (n * 10 + digit_value d) ds es

below_ten : (ds : List ℕ) → list_all is_ascii_digit ds ≡ true → AllDigits 10 ds
below_ten [] all = tt
below_ten (d ∷ ds) all =
    let parts = and_split (is_ascii_digit d) (list_all is_ascii_digit ds) all in
    let there = digit_is d parts.0 in
    (omega (arith, there.1, there.2), below_ten ds parts.1)

-- the number of at most 7 digits
pub short_value : (ds : List ℕ) → list_all is_ascii_digit ds ≡ true → length ds ≤ 7 → digits_value 10 ds < 10000000
short_value ds all few =
    let power : 10 ^ length ds ≤ 10 ^ 7 = pow-le-pow_right {n = 10} (lit< tt) few in
    omega (arith, digits_value-lt 10 ds (below_ten ds all), power)

-- what the count of a front counts passes
pub all_in_front : {A : Type 0} (p : A → Bool) (xs : List A) → list_all p (take (prefix_len p xs) xs) ≡ true
all_in_front p xs = list_all-from_AllPass p (take (prefix_len p xs) xs) (λ k d lt.
    let within : k < prefix_len p xs = omega (arith, length-prefix_len p xs) in
    ap p (get_or-take (prefix_len p xs) xs k d within) ∙ prefix_len_passes p xs k d within)

-- and where all of a text passes, and nothing in front of what follows it, the count of the whole counts the text
pub prefix_all : {A : Type 0} (p : A → Bool) (xs ys : List A) → list_all p xs ≡ true → prefix_len p ys ≡ 0 → prefix_len p (xs ++ ys) ≡ length xs
prefix_all p [] ys all none = none
prefix_all p (x ∷ xs) ys all none =
    let parts = and_split (p x) (list_all p xs) all in
    let first : p x ≡ true = parts.0 in
    rw first (omega (arith, prefix_all p xs ys parts.1 none))
