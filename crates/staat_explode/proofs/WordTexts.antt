-- Words of decimal digits, as the reader of files finds them.
use Rattle.std.proofs.Common.{◌≡◌, ℕ, suc, ◌+◌, ◌^◌, ◌<◌, ◌≤◌, Bool, true, false, List, []}
use Rattle.std.proofs.Common.{◌∷◌, ◌++◌, take, drop, length, get_or, subst, ap, sym, refl, ◌∙◌, arith, add-one}
use Rattle.std.proofs.Common.{decimal, ℤ, pos, negsuc, unsigned_abs, inl, inr, Some, None, Result, Ok, Err}
use Rattle.std.proofs.Common.{append-nil, Option}
use Rattle.std.specs.Prelude.{◌==◌, ◌&&◌, codes, if◌then◌else◌}
use Rattle.std.specs.Char.{is_ascii_digit}
use Rattle.std.specs.List.{list_all, prefix_len}
use Rattle.std.specs.Fmt.{signed_decimal}
use Rattle.std.specs.Str.Parse.{digits_value}
use Rattle.std.proofs.lemmas.Bool.{false≢true}
use Rattle.std.proofs.lemmas.Bool.Decides.{nat_tests}
use Rattle.std.proofs.lemmas.Fmt.{decimal_is_IsNumeral_wide, length-decimal-le_wide}
use Rattle.std.proofs.lemmas.Str.Parse.{digit_at}
use Rattle.std.proofs.Math.Seq.{take-append_seam, drop-append_seam}
use Rattle.staat_vec.specs.declared.vector.TheConstants.{POINT}
use Rattle.staat_off.specs.declared.refusal.OffRefusal.{OffRefusal}
use Rattle.staat_off.specs.declared.refusal.OffRefusal.TheVariants.{NotWhole, TooBig}
use Rattle.staat_off.specs.Coordinates.{coordinate_of}
use Rattle.staat_off.specs.Numerals.{Numeral}
use Rattle.staat_off.specs.Spelling.{IsSign, Spells}
use Rattle.staat_off.specs.Values.{IsValueOf, IsMagnitude, signed}
use Rattle.staat_off.specs.Scan.{Rest, gap, next_word, word_in_front}
use Rattle.staat_off.specs.Words.{Word, is_plain}
use Rattle.staat_off.proofs.Decisions.{spelled_decides}
use Rattle.std.proofs.lemmas.List.Sums.{list_all-from_AllPass}
use Rattle.staat_vec.proofs.Decimals.{decimal_value}
use Rattle.staat_vec.proofs.ListLaws.{any_default}
use Rattle.staat_vec.proofs.Naturals.{eq_test_false}
use Rattle.staat_off.proofs.DigitLemmas.{prefix_all}

-- ---- numbers

-- what all digits pass, a number's text passes
decimal_all : (p : ℕ → Bool) → ((c : ℕ) → 48 ≤ c → c ≤ 57 → p c ≡ true) → (n : ℕ) → n < 10 ^ 64
    → list_all p (decimal n) ≡ true
decimal_all p each n small = list_all-from_AllPass p (decimal n) (λ k d lt.
    let range = digit_at (decimal n) k (decimal_is_IsNumeral_wide n small).0.1 lt in
    subst (λ c. p c ≡ true) (any_default (decimal n) k 0 d lt) (each (get_or (decimal n) k 0) range.0 range.1))

pub decimal_tested : (n : ℕ) → n < 10 ^ 64 → list_all is_ascii_digit (decimal n) ≡ true
decimal_tested = decimal_all is_ascii_digit (λ c low high. grind (arith, nat_tests))

pub decimal_some : (n : ℕ) → n < 10 ^ 64 → 0 < length (decimal n)
decimal_some n small = omega (arith, (decimal_is_IsNumeral_wide n small).0.0)

-- a word, after a blank
abbrev pub IsPlainWord : List ℕ → Type 0
IsPlainWord w = (list_all is_plain w ≡ true) × (0 < length w)

plain_digit : (c : ℕ) → 48 ≤ c → c ≤ 57 → is_plain c ≡ true
plain_digit c low high = grind (arith, nat_tests)

pub plain_word : (z : ℤ) → unsigned_abs z < 10 ^ 64 → IsPlainWord (signed_decimal z)
plain_word (pos n) small = (decimal_all is_plain plain_digit n small, decimal_some n small)
plain_word (negsuc n) small = (decimal_all is_plain plain_digit (suc n) small, omega arith)

-- ---- a coordinate is read as the number that was written

abbrev numeral : Bool → ℕ → Numeral
numeral b n = record { is_negative = b; whole = decimal n; fraction = []; is_down = false; exponent = [] }

short : (n : ℕ) → n ≤ POINT → (n < 10 ^ 64) × (length (decimal n) ≤ 7)
short n small =
    let wide : n < 10 ^ 64 = omega arith in (wide, length-decimal-le_wide 7 n (omega arith) (omega arith) wide)

abbrev sign_text : Bool → List ℕ
sign_text true = codes "-"
sign_text false = []

number_spells : (b : Bool) (n : ℕ) → n ≤ POINT → IsSign b (sign_text b) → Spells (sign_text b ++ decimal n) (numeral b n)
number_spells b n small sign =
    let s = short n small in
    let some = decimal_some n s.0 in
    record {
      sign = sign_text b;
      point = [];
      power = [];
      digits = record {
        whole = decimal_tested n s.0;
        fraction = refl;
        exponent = refl;
        short = omega (arith, s.1);
      };
      is_sign = sign;
      is_point = inl (refl, refl, some);
      is_power = inl (refl, refl, refl);
      whole = ap (λ l. sign_text b ++ l) (sym (append-nil (decimal n)));
      short = fits b;
    }
  where
    fits : (t : Bool) → length (sign_text t ++ decimal n) ≤ 64
    fits true = let s = short n small in omega (arith, s.1)
    fits false = let s = short n small in omega (arith, s.1)

magnitude : (b : Bool) (n v : ℕ) → n < 10 ^ 64 → IsMagnitude (numeral b n) 0 v → v ≡ n
unfolding IsMagnitude
magnitude b n v small h =
    let e = ap (digits_value 10) (append-nil (decimal n)) ∙ decimal_value n small in omega (arith, h, e)

is_magnitude : (b : Bool) (n : ℕ) → n < 10 ^ 64 → IsMagnitude (numeral b n) 0 n
unfolding IsMagnitude
is_magnitude b n small =
    let e = ap (digits_value 10) (append-nil (decimal n)) ∙ decimal_value n small in omega (arith, e)

decided : (b : Bool) (n at : ℕ) (r : Result ℤ OffRefusal) → n ≤ POINT → IsValueOf 0 (numeral b n) at r → r
    ≡ Ok (signed b n)
decided b n at (Ok z) small h =
    let wide : n < 10 ^ 64 = omega arith in ap Ok (h.3 ∙ ap (signed b) (magnitude b n h.0 wide h.1))
decided b n at (Err (NotWhole place)) small h = absurd (h.1 n (is_magnitude b n (omega arith)))
decided b n at (Err (TooBig place)) small h =
    let wide : n < 10 ^ 64 = omega arith in let same = magnitude b n h.1.0 wide h.1.1 in absurd (omega (arith, h.1.2))
decided b n at (Err other) small h = absurd h

pub coordinate_read : (z : ℤ) (at : ℕ) → unsigned_abs z ≤ POINT
    → coordinate_of 0 (record { text = signed_decimal z; at = at }) ≡ Ok z
coordinate_read (pos n) at small =
    decided false n at _ small (spelled_decides 0 (record { text = decimal n; at = at }) (numeral false n) (number_spells false n small (inr (refl, inr refl))))
coordinate_read (negsuc n) at small =
    decided true (suc n) at _ small (spelled_decides 0 (record { text = codes "-" ++ decimal (suc n); at = at }) (numeral true (suc n)) (number_spells true (suc n) small (inl (refl, refl))))

-- ---- the next word

-- a blank is passed over
pub word_behind_blank : (b : ℕ) (t : List ℕ) (at : ℕ) → is_plain b ≡ false → (b == 35) ≡ false
    → next_word (record { bytes = b ∷ t; at = at }) ≡ next_word (record { bytes = t; at = at + 1 })
unfolding next_word gap
word_behind_blank b t at blank other =
    let n = gap false t in
    let one : (if is_plain b then 0 else gap (b == 35) t + 1) ≡ gap false t + 1 =
    ap (λ (x : Bool). if x then 0 else gap (b == 35) t + 1) blank ∙ ap (λ (x : Bool). gap x t + 1) other in
    let bytes : drop (gap false t + 1) (b ∷ t) ≡ drop (gap false t) t =
    ap (λ (k : ℕ). drop k (b ∷ t)) (add-one (gap false t)) in
    let place : at + (gap false t + 1) ≡ at + 1 + gap false t = omega arith in
    ap (λ (k : ℕ). word_in_front (record { bytes = drop k (b ∷ t); at = at + k })) one
    ∙ (λ i. word_in_front (record { bytes = bytes i; at = place i }))

no_gap : (w s : List ℕ) → list_all is_plain w ≡ true → 0 < length w → gap false (w ++ s) ≡ 0
unfolding gap
no_gap [] s all some = absurd (omega arith)
no_gap (b ∷ w) s all some = go (is_plain b) all
  where
    go : (t : Bool) → (t && list_all is_plain w) ≡ true → (if t then 0 else gap (b == 35) (w ++ s) + 1) ≡ 0
    go true e = refl
    go false e = absurd (false≢true e)

-- the word in front is read
pub word_front : (w s : List ℕ) (at : ℕ) → list_all is_plain w ≡ true → 0 < length w
    → prefix_len is_plain s ≡ 0 → next_word (record { bytes = w ++ s; at = at })
    ≡ (Some (record { text = w; at = at }), record { bytes = s; at = at + length w })
unfolding next_word
word_front w s at all some none =
    ap (λ (k : ℕ). word_in_front (record { bytes = drop k (w ++ s); at = at + k })) (no_gap w s all some)
    ∙ (λ i. read (here i) (prefix_all is_plain w s all none i) (prefix_all is_plain w s all none i == 0))
    ∙ ap (read at (length w)) (eq_test_false (length w) 0 (λ e. omega arith))
    ∙ (λ i. (Some (record { text = take-append_seam w s i; at = at }), record { bytes = drop-append_seam w s i; at = at + length w }))
  where
    here : at + 0 ≡ at
    here = omega arith

    read : ℕ → ℕ → Bool → Option Word × Rest
    read place n none = if none then (None, record { bytes = w ++ s; at = place })
        else (Some (record { text = take n (w ++ s); at = place }), record { bytes = drop n (w ++ s); at = place + n })

-- no word is left where nothing but blanks is
pub no_word_left : (at : ℕ) → next_word (record { bytes = []; at = at }) ≡ (None, record { bytes = []; at = at })
unfolding next_word gap
no_word_left at =
    let here : at + 0 ≡ at = omega arith in ap (λ (k : ℕ). word_in_front (record { bytes = []; at = k })) here
