-- A word is taken apart into a numeral exactly where it spells it.
use Rattle.std.proofs.Common.{◌≡◌, ◌==◌, ◌+◌, ◌≤◌, ◌++◌, ℕ, Bool, true, false, List, [], ◌∷◌, length, take, drop, Option, Some, None, refl, sym, ap, ap₂, ◌∙◌, cond, subst, arith, inl, inr, append-nil, length-append}
use Rattle.std.specs.Prelude.{◌⊎◌, ◌&&◌, ◌||◌, nat_lt, codes, option_map}
use Rattle.std.specs.Char.{is_ascii_digit}
use Rattle.std.specs.List.{list_all, prefix_len}
use Rattle.std.proofs.lemmas.Bool.{eqb-true, or_cases, ltb-true, ltb-false, lt-ltb}
use Rattle.std.proofs.lemmas.Bool.Decides.{nat_tests}
use Rattle.std.proofs.lemmas.List.{take-append-drop}
use Rattle.std.proofs.Math.Seq.{take-append_seam, drop-append_seam}
use Rattle.staat_off.specs.Numerals.{IsNumeral, Numeral, after_digits, after_fraction, after_sign, are_digits, digits_in, exponent_of, fraction_in, is_minus_first, is_nonempty, mantissa_of, numeral_of, numeral_with, unsigned_of}
use Rattle.staat_off.specs.Spelling.{IsPoint, IsPower, IsSign, Spells}
use Rattle.staat_off.proofs.DigitLemmas.{all_in_front, digit_is, prefix_all}
use Rattle.staat_vec.proofs.Naturals.{lt_test_false}
use Rattle.staat_vec.proofs.Options.{from_some, option_map_found, test_passed}
use Rattle.staat_vec.proofs.Truth.{and_split}

-- ---- what a word is made of

-- the sign of a text, and what follows it
record HasSign (bs : List ℕ) : Type 0 where
  sign : List ℕ
  is : IsSign (is_minus_first bs) sign
  whole : bs ≡ sign ++ after_sign bs

sign_by : (b : ℕ) (bs : List ℕ) (minus plus : Bool) → (b == 45) ≡ minus → (b == 43) ≡ plus → HasSign (b ∷ bs)
sign_by b bs true plus e f =
    let minus : b ≡ 45 = eqb-true b 45 e in
    record { sign = codes "-"; is = rw minus (inl (refl, refl)); whole = rw minus refl }
sign_by b bs false true e f =
    let plus : b ≡ 43 = eqb-true b 43 f in
    record { sign = codes "+"; is = rw plus (inr (refl, inl refl)); whole = rw plus refl }
sign_by b bs false false e f =
    record { sign = []; is = inr (e, inr refl); whole = rw (e, f) refl }

sign_of : (bs : List ℕ) → HasSign bs
sign_of [] = record { sign = []; is = inr (refl, inr refl); whole = refl }
sign_of (b ∷ bs) = sign_by b bs (b == 45) (b == 43) refl refl

-- the point and the digits behind it, and what follows them
record HasPoint (bs : List ℕ) : Type 0 where
  point : List ℕ
  is : ((point ≡ []) × (fraction_in bs ≡ [])) ⊎ (point ≡ codes ".")
  whole : bs ≡ point ++ (fraction_in bs ++ after_fraction bs)
  digits : list_all is_ascii_digit (fraction_in bs) ≡ true

point_by : (b : ℕ) (bs : List ℕ) (t : Bool) → (b == 46) ≡ t → HasPoint (b ∷ bs)
point_by b bs true e =
    let point : b ≡ 46 = eqb-true b 46 e in
    record {
      point = codes ".";
      is = inr refl;
      whole = rw point (ap (λ xs. 46 ∷ xs) (sym (take-append-drop (prefix_len is_ascii_digit bs) bs)));
      digits = rw point (all_in_front is_ascii_digit bs);
    }
point_by b bs false e =
    record { point = []; is = inl (refl, rw e refl); whole = rw e refl; digits = rw e refl }

point_of : (bs : List ℕ) → HasPoint bs
point_of [] = record { point = []; is = inl (refl, refl); whole = refl; digits = refl }
point_of (b ∷ bs) = point_by b bs (b == 46) refl

letter_of : (b : ℕ) (ds : List ℕ) → (b == 101 || b == 69) ≡ true → (b ∷ ds ≡ codes "e" ++ ds) ⊎ (b ∷ ds ≡ codes "E" ++ ds)
letter_of b ds h = elim (or_cases (b == 101) (b == 69) h) [
  | inl e ↦ inl (ap (λ x. x ∷ ds) (eqb-true b 101 e))
  | inr e ↦ inr (ap (λ x. x ∷ ds) (eqb-true b 69 e))
]

power_of : (bs : List ℕ) (d : Bool × List ℕ) → exponent_of bs ≡ Some d → IsPower d.0 d.1 bs × (list_all is_ascii_digit d.1 ≡ true)
unfolding exponent_of
power_of [] d h =
    let down : false ≡ d.0 = cc in
    let exponent : [] ≡ d.1 = cc in
    (inl (refl, sym down, sym exponent), subst (λ xs. list_all is_ascii_digit xs ≡ true) exponent refl)
power_of (b ∷ bs) d h =
    let passed = test_passed ((b == 101 || b == 69) && are_digits (after_sign bs)) (Some (is_minus_first bs, after_sign bs)) d h in
    let outer = and_split (b == 101 || b == 69) (are_digits (after_sign bs)) passed.0 in
    let digits = and_split (is_nonempty (after_sign bs)) (list_all is_ascii_digit (after_sign bs)) outer.1 in
    let sign = sign_of bs in
    let down : is_minus_first bs ≡ d.0 = ap (λ p. p.0) (from_some passed.1) in
    let exponent : after_sign bs ≡ d.1 = ap (λ p. p.1) (from_some passed.1) in
    let text : (b ∷ bs ≡ codes "e" ++ (sign.sign ++ d.1)) ⊎ (b ∷ bs ≡ codes "E" ++ (sign.sign ++ d.1)) =
    subst (λ xs. (b ∷ bs ≡ codes "e" ++ xs) ⊎ (b ∷ bs ≡ codes "E" ++ xs)) (sign.whole ∙ ap (λ xs. sign.sign ++ xs) exponent) (letter_of b bs outer.0) in (
      inr (
        sign.sign,
        subst (λ x. IsSign x sign.sign) down sign.is,
        subst (λ xs. 1 ≤ length xs) exponent (ltb-true 0 (length (after_sign bs)) digits.0),
        text,
      ),
      subst (λ xs. list_all is_ascii_digit xs ≡ true) exponent digits.1,
    )

some_digit : (whole fraction : List ℕ) → (is_nonempty whole || is_nonempty fraction) ≡ true → 1 ≤ length whole + length fraction
some_digit whole fraction h = grind (arith, nat_tests)

is_point : (whole fraction point : List ℕ) → ((point ≡ []) × (fraction ≡ [])) ⊎ (point ≡ codes ".") → 1 ≤ length whole + length fraction → IsPoint whole fraction point
is_point whole fraction point (inl none) some =
    let empty : length fraction ≡ 0 = ap length none.1 in
    inl (none.0, none.1, omega arith)
is_point whole fraction point (inr one) some = inr (one, some)

-- five parts of a word are no longer than it
parts_short : (word sign whole point fraction power : List ℕ) → word ≡ sign ++ (whole ++ (point ++ (fraction ++ power))) → length word ≤ 64 → length whole + length fraction ≤ 64
parts_short word sign whole point fraction power e le =
    omega (arith, ap length e, length-append sign (whole ++ (point ++ (fraction ++ power))), length-append whole (point ++ (fraction ++ power)), length-append point (fraction ++ power), length-append fraction power)

spelled_by : (word : List ℕ) (n : Numeral) → length word ≤ 64 → unsigned_of (is_minus_first word) (after_sign word) ≡ Some n → Spells word n
unfolding unsigned_of
spelled_by word n le h =
    let bs = after_sign word in
    let rest = after_digits bs in
    let whole = digits_in bs in
    let fraction = fraction_in rest in
    let outer = test_passed (is_nonempty whole || is_nonempty fraction) (option_map (numeral_with (is_minus_first word) whole fraction) (exponent_of (after_fraction rest))) n h in
    let inner = option_map_found (numeral_with (is_minus_first word) whole fraction) (exponent_of (after_fraction rest)) n outer.1 in
    let sign = sign_of word in
    let point = point_of rest in
    let power = power_of (after_fraction rest) inner.0 inner.1 in
    let text : word ≡ sign.sign ++ (whole ++ (point.point ++ (fraction ++ after_fraction rest))) = sign.whole ∙ ap (λ xs. sign.sign ++ xs) (sym (take-append-drop (prefix_len is_ascii_digit bs) bs) ∙ ap (λ xs. whole ++ xs) point.whole) in
    subst (Spells word) inner.2 (record {
      sign = sign.sign;
      point = point.point;
      power = after_fraction rest;
      digits = record {
        whole = all_in_front is_ascii_digit bs;
        fraction = point.digits;
        exponent = power.1;
        short = parts_short word sign.sign whole point.point fraction (after_fraction rest) text le;
      };
      is_sign = sign.is;
      is_point = is_point whole fraction point.point point.is (some_digit whole fraction outer.0);
      is_power = power.0;
      whole = text;
      short = le;
    })

fits_by : {X : Type 0} (word : List ℕ) (o : Option X) (x : X) (t : Bool) → nat_lt 64 (length word) ≡ t → cond t None o ≡ Some x → (length word ≤ 64) × (o ≡ Some x)
fits_by word o x true e h = cc
fits_by word o x false e h = (ltb-false 64 (length word) e, h)

pub spelled : (word : List ℕ) (n : Numeral) → numeral_of word ≡ Some n → Spells word n
unfolding numeral_of
spelled word n h =
    let fits = fits_by word (unsigned_of (is_minus_first word) (after_sign word)) n (nat_lt 64 (length word)) refl h in
    spelled_by word n fits.0 fits.1

-- ---- what is made of these parts is taken apart into them

-- no sign stands in front
abbrev IsUnsigned : List ℕ → Type 0
IsUnsigned bs = (is_minus_first bs ≡ false) × (after_sign bs ≡ bs)

sign_joined : (b : Bool) (sign bs : List ℕ) → IsSign b sign → IsUnsigned bs → (is_minus_first (sign ++ bs) ≡ b) × (after_sign (sign ++ bs) ≡ bs)
sign_joined b sign bs (inl (e, text)) plain = (rw text (sym e), rw text refl)
sign_joined b sign bs (inr (e, inl text)) plain = (rw text (sym e), rw text refl)
sign_joined b sign bs (inr (e, inr text)) plain = (rw text (plain.0 ∙ sym e), rw text plain.1)

-- no digit stands in front
abbrev IsDigitless : List ℕ → Type 0
IsDigitless bs = prefix_len is_ascii_digit bs ≡ 0

digits_joined : (ds tail : List ℕ) → list_all is_ascii_digit ds ≡ true → IsDigitless tail → (digits_in (ds ++ tail) ≡ ds) × (after_digits (ds ++ tail) ≡ tail)
digits_joined ds tail all e =
    let len = prefix_all is_ascii_digit ds tail all e in (
      ap (λ n. take n (ds ++ tail)) len ∙ take-append_seam ds tail,
      ap (λ n. drop n (ds ++ tail)) len ∙ drop-append_seam ds tail,
    )

-- what an exponent's text tells
record IsEnd (is_down : Bool) (exponent text : List ℕ) : Type 0 where
  no_digit : IsDigitless text
  no_fraction : fraction_in text ≡ []
  all_left : after_fraction text ≡ text
  exponent_is : exponent_of text ≡ Some (is_down, exponent)

digits_unsigned : (ds tail : List ℕ) → list_all is_ascii_digit ds ≡ true → (length ds ≡ 0 → IsUnsigned tail) → IsUnsigned (ds ++ tail)
digits_unsigned [] tail all h = h refl
digits_unsigned (d ∷ ds) tail all h =
    let first = digit_is d (and_split (is_ascii_digit d) (list_all is_ascii_digit ds) all).0 in
    let no_sign : (d == 45 || d == 43) ≡ false = grind (arith, nat_tests, first.0) in
    (grind (arith, nat_tests, first.0), ap (λ t. cond t (ds ++ tail) (d ∷ (ds ++ tail))) no_sign)

are_digits_of : (ds : List ℕ) → 1 ≤ length ds → list_all is_ascii_digit ds ≡ true → are_digits ds ≡ true
are_digits_of ds some all =
    let first : is_nonempty ds ≡ true = lt-ltb 0 (length ds) some in
    ap₂ (λ a b. a && b) first all

exponent_by : (letter : ℕ) (xs ds : List ℕ) (down : Bool) → (letter == 101 || letter == 69) ≡ true → is_minus_first xs ≡ down → after_sign xs ≡ ds → are_digits ds ≡ true → exponent_of (letter ∷ xs) ≡ Some (down, ds)
unfolding exponent_of
exponent_by letter xs ds down l minus rest digits =
    ap (λ ys. cond ((letter == 101 || letter == 69) && are_digits ys) (Some (is_minus_first xs, ys)) None) rest
    ∙ ap (λ m. cond ((letter == 101 || letter == 69) && are_digits ds) (Some (m, ds)) None) minus
    ∙ ap₂ (λ a b. cond (a && b) (Some (down, ds)) None) l digits

end_is : (is_down : Bool) (exponent text : List ℕ) → list_all is_ascii_digit exponent ≡ true → IsPower is_down exponent text → IsEnd is_down exponent text
unfolding exponent_of
end_is is_down exponent text all (inl (none, up, empty)) =
    subst (IsEnd is_down exponent) (sym none) (record {
      no_digit = refl;
      no_fraction = refl;
      all_left = refl;
      exponent_is = ap₂ (λ x y. Some (x, y)) (sym up) (sym empty);
    })
end_is is_down exponent text all (inr (sign, signed, some, spelling)) =
    let parts = sign_joined is_down sign exponent signed (subst IsUnsigned (append-nil exponent) (digits_unsigned exponent [] all (λ _. (refl, refl)))) in
    let read : (letter : ℕ) → (letter == 101 || letter == 69) ≡ true → exponent_of (letter ∷ (sign ++ exponent)) ≡ Some (is_down, exponent) =
    λ letter l. exponent_by letter (sign ++ exponent) exponent is_down l parts.0 parts.1 (are_digits_of exponent some all) in
    elim spelling [
      | inl e ↦ subst (IsEnd is_down exponent) (sym e) (record { no_digit = refl; no_fraction = refl; all_left = refl; exponent_is = read 101 refl })
      | inr e ↦ subst (IsEnd is_down exponent) (sym e) (record { no_digit = refl; no_fraction = refl; all_left = refl; exponent_is = read 69 refl })
    ]

-- what the point's text and what follows it tell
record IsMiddle (fraction power tail : List ℕ) : Type 0 where
  no_digit : IsDigitless tail
  fraction_is : fraction_in tail ≡ fraction
  after_is : after_fraction tail ≡ power

middle_is : (n : Numeral) (point power : List ℕ) → IsNumeral n → IsPoint n.whole n.fraction point → IsEnd n.is_down n.exponent power → IsMiddle n.fraction power (point ++ (n.fraction ++ power))
middle_is n point power digits (inl (none, empty, some)) end =
    let tail : power ≡ point ++ (n.fraction ++ power) = sym (ap₂ (λ x y. x ++ (y ++ power)) none empty) in
    subst (IsMiddle n.fraction power) tail (record {
      no_digit = end.no_digit;
      fraction_is = end.no_fraction ∙ sym empty;
      after_is = end.all_left;
    })
middle_is n point power digits (inr (one, some)) end =
    let parts = digits_joined n.fraction power digits.fraction end.no_digit in
    let tail : 46 ∷ (n.fraction ++ power) ≡ point ++ (n.fraction ++ power) = sym (ap (λ x. x ++ (n.fraction ++ power)) one) in
    subst (IsMiddle n.fraction power) tail (record {
      no_digit = refl;
      fraction_is = parts.0;
      after_is = parts.1;
    })

no_sign : (n : Numeral) (point power : List ℕ) → IsNumeral n → IsPoint n.whole n.fraction point → IsUnsigned (n.whole ++ (point ++ (n.fraction ++ power)))
no_sign n point power digits (inl (none, empty, some)) = digits_unsigned n.whole _ digits.whole (λ nothing. absurd (omega arith))
no_sign n point power digits (inr (one, some)) =
    digits_unsigned n.whole _ digits.whole (λ _. subst (λ x. IsUnsigned (x ++ (n.fraction ++ power))) (sym one) (refl, refl))

digit_somewhere : (whole fraction point : List ℕ) → IsPoint whole fraction point → (is_nonempty whole || is_nonempty fraction) ≡ true
digit_somewhere whole fraction point (inl (none, empty, some)) = grind (arith, nat_tests)
digit_somewhere whole fraction point (inr (one, some)) = grind (arith, nat_tests)

pub read_back : (word : List ℕ) (n : Numeral) → Spells word n → numeral_of word ≡ Some n
unfolding numeral_of unsigned_of
read_back word n h =
    let end = end_is n.is_down n.exponent h.power h.digits.exponent h.is_power in
    let middle = middle_is n h.point h.power h.digits h.is_point end in
    let tail : List ℕ = h.point ++ (n.fraction ++ h.power) in
    let parts = digits_joined n.whole tail h.digits.whole middle.no_digit in
    let sign = sign_joined n.is_negative h.sign (n.whole ++ tail) h.is_sign (no_sign n h.point h.power h.digits h.is_point) in
    let fraction = ap fraction_in parts.1 ∙ middle.fraction_is in
    let power = ap after_fraction parts.1 ∙ middle.after_is in
    ap (λ t. cond t None (unsigned_of (is_minus_first word) (after_sign word))) (lt_test_false 64 (length word) h.short)
    ∙ ap₂ unsigned_of (ap is_minus_first h.whole ∙ sign.0) (ap after_sign h.whole ∙ sign.1)
    ∙ (λ i. mantissa_of n.is_negative (parts.0 i) (fraction i) (power i))
    ∙ ap₂ (λ t o. cond t (option_map (numeral_with n.is_negative n.whole n.fraction) o) None) (digit_somewhere n.whole n.fraction h.point h.is_point) end.exponent_is
