-- Which value trimmed digits have, and whether they have one.
use Rattle.std.proofs.Common.{◌≡◌, ◌==◌, ◌+◌, ◌-◌, ◌*◌, ◌/◌, ◌%◌, ◌^◌, ◌<◌, ◌≤◌, ℕ, ℤ, min, cond, Bool, true, false, Result, Ok, Err, length, ap, ap₂, sym, subst, refl, ◌∙◌, zero-add, arith, inl, inr}
use Rattle.std.specs.Prelude.{if◌then◌else◌, nat_le, Option, Some, None}
use Rattle.std.proofs.Math.Nat.{mod-add-div', mul-div_cancel, mul-mod_left}
use Rattle.std.proofs.lemmas.Bool.{cases_lt, eqb-false, eqb-true, le-leb, leb-false, leb-true}
use Rattle.std.proofs.lemmas.Bool.Decides.{nat_tests}
use Rattle.staat_vec.specs.declared.vector.TheConstants.{POINT}
use Rattle.staat_off.specs.declared.coordinate.TheConstants.{FAR, TOO_MANY}
use Rattle.staat_off.specs.declared.trim.TheConstants.{BEYOND}
use Rattle.staat_limits.specs.declared.limits.TheConstants.{MOST_DIGITS}
use Rattle.staat_off.specs.declared.refusal.OffRefusal.{OffRefusal}
use Rattle.staat_off.specs.declared.refusal.OffRefusal.TheVariants.{BadNumber, NotWhole, TooBig}
use Rattle.staat_off.specs.Coordinates.{coordinate_of, decision_of, denominator, numerator, quotient_of, within_limit}
use Rattle.staat_off.specs.Numerals.{Numeral, numeral_of}
use Rattle.staat_off.specs.Spelling.{Spells}
use Rattle.staat_off.specs.Trims.{Trims}
use Rattle.staat_off.specs.Values.{IsValueOf, IsMagnitude, digits_of, down, signed, up}
use Rattle.staat_off.specs.Words.{Word}
use Rattle.staat_off.proofs.Powers.{many_zeros, no_value, ten_pos, two_powers, value_at}
use Rattle.staat_off.proofs.Pushes.{product_kept}
use Rattle.staat_off.proofs.SpellingLemmas.{read_back, spelled}

module _ (n : Numeral) (k : ℕ) where
  -- the equation with one power on either side
  pub one_power : (v : ℕ) → IsMagnitude n k v → v * 10 ^ (length n.fraction + down n k) ≡ digits_of n * 10 ^ up n k
  unfolding IsMagnitude
  one_power v h = sym (two_powers v (length n.fraction) (down n k)) ∙ h

  pub by_one_power : (v : ℕ) → v * 10 ^ (length n.fraction + down n k) ≡ digits_of n * 10 ^ up n k → IsMagnitude n k v
  unfolding IsMagnitude
  by_one_power v h = two_powers v (length n.fraction) (down n k) ∙ h

module _ (n : Numeral) (k mantissa zeros : ℕ) (t : Trims mantissa zeros (digits_of n)) where
  pub magnitude : (x : ℕ) → x + (length n.fraction + down n k) ≡ zeros + up n k → IsMagnitude n k (t.front * 10 ^ x)
  magnitude x e =
      by_one_power n k (t.front * 10 ^ x)
      (value_at t.front zeros (length n.fraction + down n k) (up n k) x e ∙ ap (λ d. d * 10 ^ up n k) (sym t.split))

  pub no_magnitude : zeros + up n k < length n.fraction + down n k → 0 < mantissa → (v : ℕ) → IsMagnitude n k v → ⊥
  no_magnitude lt pos v h =
      no_value t.front zeros (length n.fraction + down n k) (up n k) v lt (t.last (omega (arith, t.kept)))
      (one_power n k v h ∙ ap (λ d. d * 10 ^ up n k) t.split)

  pub zero_magnitude : mantissa ≡ 0 → IsMagnitude n k 0
  zero_magnitude none =
      let empty : t.front ≡ 0 = omega (arith, t.kept) in
      let whole : digits_of n ≡ 0 = t.split ∙ ap (λ f. f * 10 ^ zeros) empty ∙ omega arith in
      by_one_power n k 0 (omega arith ∙ ap (λ d. d * 10 ^ up n k) (sym whole))

-- ---- an exponent that is kept up to FAR decides as the whole one does

pub higher : (b : Bool) (f z whole k e : ℕ) → e ≡ min whole FAR → z ≤ 64 → f ≤ 64 → k ≤ MOST_DIGITS → f + cond b (e - k) 0 ≤ z + cond b (k - e) (e + k) → (y : ℕ) × (y + (f + cond b (whole - k) 0) ≡ z + cond b (k - whole) (whole + k)) × (min (z + cond b (k - e) (e + k) - (f + cond b (e - k) 0)) TOO_MANY ≡ min y TOO_MANY)
higher true f z whole k e kept zeros few small le =
    (z + (k - whole) - (f + (whole - k)), omega arith, omega arith)
higher false f z whole k e kept zeros few small le =
    (z + (whole + k) - (f + 0), omega arith, omega arith)

-- digits and the zeros behind them are above POINT alike, whether both are kept in full or not
pub product_kept_zeros : (front mantissa x y : ℕ) → mantissa ≡ min front BEYOND → 0 < mantissa → x ≡ min y TOO_MANY → min (mantissa * 10 ^ x) BEYOND ≡ min (front * 10 ^ y) BEYOND
product_kept_zeros front mantissa x y kept pos few =
    let product : min (mantissa * 10 ^ x) BEYOND ≡ min (front * 10 ^ x) BEYOND = ap (λ m. min (m * 10 ^ x) BEYOND) kept ∙ product_kept front (10 ^ x) (ten_pos x) in
    elim (cases_lt y TOO_MANY) [
      | inl less ↦ let same : x ≡ y = omega arith in product ∙ ap (λ z. min (front * 10 ^ z) BEYOND) same
      | inr more ↦
          omega (arith, product, many_zeros front x (omega arith) (omega arith), many_zeros front y (omega arith) (omega arith))
    ]

-- ---- the value as a quotient

quotient_is : (v n d : ℕ) → 0 < d → v * d ≡ n → (n % d ≡ 0) × (n / d ≡ v)
quotient_is v n d pos e =
    (ap (λ m. m % d) (sym e) ∙ mul-mod_left v d, ap (λ m. m / d) (sym e) ∙ mul-div_cancel v pos)

no_rest : (n d : ℕ) → n % d ≡ 0 → n / d * d ≡ n
no_rest n d e = sym (zero-add (n / d * d)) ∙ ap (λ m. m + n / d * d) (sym e) ∙ mod-add-div' n d

-- the answer at a quotient
abbrev at_quotient : Bool → ℕ → ℕ → ℕ → Result ℤ OffRefusal
at_quotient negative at rest v = if rest == 0 then within_limit negative v at else Err (NotWhole at)

at_value : (negative : Bool) (at v : ℕ) → v ≤ POINT → Ok (signed negative v) ≡ at_quotient negative at 0 v
at_value negative at v le = rw (le-leb v POINT le) refl

at_big : (negative : Bool) (at v : ℕ) → POINT < v → Err (TooBig at) ≡ at_quotient negative at 0 v
at_big negative at v lt = grind (arith, nat_tests)

at_rest : (negative : Bool) (at rest v : ℕ) → (rest ≡ 0 → ⊥) → Err (NotWhole at) ≡ at_quotient negative at rest v
at_rest negative at rest v ne = grind (arith, nat_tests)

pub decided_by_quotient : (k : ℕ) (n : Numeral) (at : ℕ) (decision : Result ℤ OffRefusal) → IsValueOf k n at decision → decision ≡ quotient_of k n at
decided_by_quotient k n at (Ok z) h =
    let q = quotient_is h.0 (numerator n k) (denominator n k) (ten_pos (length n.fraction + down n k)) (one_power n k h.0 h.1) in
    ap Ok h.3 ∙ at_value n.is_negative at h.0 h.2 ∙ ap₂ (at_quotient n.is_negative at) (sym q.0) (sym q.1)
decided_by_quotient k n at (Err (TooBig place)) h =
    let q = quotient_is h.1.0 (numerator n k) (denominator n k) (ten_pos (length n.fraction + down n k)) (one_power n k h.1.0 h.1.1) in
    ap (λ p. Err (TooBig p)) h.0 ∙ at_big n.is_negative at h.1.0 h.1.2 ∙ ap₂ (at_quotient n.is_negative at) (sym q.0) (sym q.1)
decided_by_quotient k n at (Err (NotWhole place)) h =
    ap (λ p. Err (NotWhole p)) h.0
    ∙ at_rest n.is_negative at (numerator n k % denominator n k) (numerator n k / denominator n k)
    (λ e. h.1 (numerator n k / denominator n k) (by_one_power n k (numerator n k / denominator n k) (no_rest (numerator n k) (denominator n k) e)))
decided_by_quotient k n at (Err other) h = absurd h

-- ---- the quotient decides

limit_by : (k : ℕ) (n : Numeral) (at v : ℕ) (t : Bool) → nat_le v POINT ≡ t → IsMagnitude n k v → IsValueOf k n at (cond t (Ok (signed n.is_negative v)) (Err (TooBig at)))
limit_by k n at v true e h = (v, h, leb-true v POINT e, refl)
limit_by k n at v false e h = (refl, (v, h, leb-false v POINT e))

quotient_by : (k : ℕ) (n : Numeral) (at : ℕ) (t : Bool) → (numerator n k % denominator n k == 0) ≡ t → IsValueOf k n at (cond t (within_limit n.is_negative (numerator n k / denominator n k) at) (Err (NotWhole at)))
quotient_by k n at true e =
    let v = numerator n k / denominator n k in
    let none : numerator n k % denominator n k ≡ 0 = eqb-true (numerator n k % denominator n k) 0 e in
    limit_by k n at v (nat_le v POINT) refl (by_one_power n k v (no_rest (numerator n k) (denominator n k) none))
quotient_by k n at false e = (
  refl,
  λ v h.
      let q = quotient_is v (numerator n k) (denominator n k) (ten_pos (length n.fraction + down n k)) (one_power n k v h) in
      eqb-false (numerator n k % denominator n k) 0 e q.0,
)

pub quotient_decides : (k : ℕ) (n : Numeral) (at : ℕ) → IsValueOf k n at (quotient_of k n at)
quotient_decides k n at =
    quotient_by k n at (numerator n k % denominator n k == 0) refl

-- a word that spells a numeral
pub spelled_decides : (k : ℕ) (w : Word) (n : Numeral) → Spells w.text n → IsValueOf k n w.at (coordinate_of k w)
unfolding coordinate_of
spelled_decides k w n h =
    subst (λ o. IsValueOf k n w.at (decision_of k o w.at)) (sym (read_back w.text n h)) (quotient_decides k n w.at)

-- and one that spells none
pub unspelled_is_bad : (k : ℕ) (w : Word) → ((n : Numeral) → Spells w.text n → ⊥) → coordinate_of k w ≡ Err (BadNumber w.at)
unfolding coordinate_of
unspelled_is_bad k w none = go (numeral_of w.text) refl
  where
    go : (o : Option Numeral) → numeral_of w.text ≡ o → decision_of k (numeral_of w.text) w.at ≡ Err (BadNumber w.at)
    go None e = ap (λ o. decision_of k o w.at) e
    go (Some n) e = absurd (none n (spelled w.text n e))

pub ruleset deciding = (spelled_decides, unspelled_is_bad)
