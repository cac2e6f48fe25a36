-- The computed number is the one whose decimal text stands there.
use Rattle.std.proofs.Common.{◌≡◌, ◌^◌, ◌<◌, ◌≤◌, ℕ, Bool, true, false, List, length, get_or, ap, sym, refl, arith}
use Rattle.std.specs.Prelude.{IfSome, IfNone, Option, Some, None, cond, nat_le}
use Rattle.std.specs.Str.{all_ascii_digits}
use Rattle.std.specs.Str.Parse.{digits_value}
use Rattle.std.proofs.lemmas.Bool.{le-leb, leb-true}
use Rattle.std.proofs.lemmas.Bool.Decides.{nat_tests}
use Rattle.std.proofs.lemmas.Str.Parse.{IsNumeralModel, numerals_by_value, tells_all_ascii_digits}
use Rattle.staat_number.specs.Numbers.{natural_within}
use Rattle.staat_number.specs.Spelling.{IsNatural, is_plain_front}
use Rattle.staat_number.proofs.SpellingLemmas.{natural_front, natural_some}
use Rattle.staat_vec.proofs.Truth.{and_split}
use Rattle.staat_vec.proofs.Options.{some_injective}

digit_tests : IsNumeralModel (λ ds. all_ascii_digits ds ≡ true) (digits_value 10)
digit_tests = numerals_by_value _ tells_all_ascii_digits

passed : (b : Bool) (m n : ℕ) → cond b (Some m) None ≡ Some n → (b ≡ true) × (m ≡ n)
passed true m n e = (refl, some_injective m n e)
passed false m n e = cc

plain_front : (ds : List ℕ) → 0 < length ds → (get_or ds 0 0 ≡ 48 → length ds ≡ 1) → is_plain_front ds ≡ true
unfolding is_plain_front
plain_front ds some h = grind (arith, nat_tests, h)

natural_again : (most n : ℕ) (ds : List ℕ) → most < 10 ^ 64 → IsNatural most ds n → natural_within most ds ≡ Some n
unfolding natural_within
natural_again most n ds small h =
    let front = natural_front most n ds small h in
    let plain : is_plain_front ds ≡ true = plain_front ds front.0 front.1.0 in
    let digits : all_ascii_digits ds ≡ true = digit_tests.from ds front.1.1.digits in
    let few : nat_le (digits_value 10 ds) most ≡ true = le-leb (digits_value 10 ds) most (omega (arith, front.1.1.value, front.1.1.bound)) in
    rw (plain, digits, few) (ap Some (sym front.1.1.value))

natural_back : (most n : ℕ) (ds : List ℕ) → most < 10 ^ 64 → natural_within most ds ≡ Some n → IsNatural most ds n
unfolding natural_within
natural_back most n ds small e =
    let found = passed _ (digits_value 10 ds) n e in
    let front = and_split (is_plain_front ds) _ found.0 in
    let digits = and_split (all_ascii_digits ds) _ front.1 in
    let bound : digits_value 10 ds ≤ most = leb-true (digits_value 10 ds) most digits.1 in
    natural_some most ds (Some n) small front.0 (record { digits = digit_tests.to ds digits.0; value = sym found.1; bound = omega (arith, bound, found.1) })

-- the one that is found, or none, is the computed one
pub natural_exact : (most : ℕ) (ds : List ℕ) (r : Option ℕ) → most < 10 ^ 64 → IfSome r (λ n. IsNatural most ds n) → IfNone r ((n : ℕ) → IsNatural most ds n → ⊥) → r ≡ natural_within most ds
natural_exact most ds (Some n) small found none = sym (natural_again most n ds small found)
natural_exact most ds None small found none = go (natural_within most ds) refl
  where
    go : (o : Option ℕ) → natural_within most ds ≡ o → None ≡ o
    go None e = refl
    go (Some n) e = absurd (none n (natural_back most n ds small e))
