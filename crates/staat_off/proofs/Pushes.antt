-- One digit more behind trimmed digits.
use Rattle.std.proofs.Common.{◌≡◌, ◌+◌, ◌*◌, ◌^◌, ◌<◌, ◌≤◌, ℕ, min, ap, sym, ◌∙◌, refl, arith, inl, inr}
use Rattle.std.proofs.lemmas.Bool.{cases_lt}
use Rattle.std.proofs.Math.Nat.{mul_assoc, mul-le-mul_left, pow-zero}
use Rattle.std.proofs.lemmas.Grind.{pow_more}
use Rattle.staat_off.specs.declared.trim.TheConstants.{BEYOND}
use Rattle.staat_off.specs.Trims.{Trims}
use Rattle.staat_off.proofs.Powers.{ten_pos}

pub push_zero : (mantissa zeros value : ℕ) → Trims mantissa zeros value → Trims mantissa (zeros + 1) (value * 10 + 0)
push_zero mantissa zeros value t =
    let more : t.front * 10 ^ (zeros + 1) ≡ t.front * 10 ^ zeros * 10 = ap (λ p. t.front * p) (pow_more 10 zeros) ∙ sym (mul_assoc t.front (10 ^ zeros) 10) in
    record { front = t.front; split = omega (arith, t.split); kept = t.kept; last = t.last }

-- the front is kept up to 100,000, and so is its product
pub product_kept : (front p : ℕ) → 0 < p → min (min front BEYOND * p) BEYOND ≡ min (front * p) BEYOND
product_kept front p pos = elim (cases_lt front BEYOND) [
  | inl few ↦ let whole : min front BEYOND ≡ front = omega arith in rw whole refl
  | inr many ↦
      let cut : min front BEYOND ≡ BEYOND = omega arith in
      let more : front ≤ front * p = omega (arith, mul-le-mul_left front pos) in
      rw cut (omega arith)
]

pub nothing : Trims 0 0 0
nothing = record { front = 0; split = refl; kept = refl; last = λ h. absurd (omega arith) }

pub push_digit : (mantissa zeros value digit raised : ℕ) → 0 < digit → digit < 10 → raised ≡ min (mantissa * 10 ^ (zeros + 1)) BEYOND → Trims mantissa zeros value → Trims (min (raised + digit) BEYOND) 0 (value * 10 + digit)
push_digit mantissa zeros value digit raised pos small e t =
    let more : t.front * 10 ^ (zeros + 1) ≡ t.front * 10 ^ zeros * 10 = ap (λ p. t.front * p) (pow_more 10 zeros) ∙ sym (mul_assoc t.front (10 ^ zeros) 10) in
    let product : raised ≡ min (t.front * 10 ^ (zeros + 1)) BEYOND = e ∙ ap (λ m. min (m * 10 ^ (zeros + 1)) BEYOND) t.kept ∙ product_kept t.front (10 ^ (zeros + 1)) (ten_pos (zeros + 1)) in
    record {
      front = value * 10 + digit;
      split = omega (arith, pow-zero 10);
      kept = omega (arith, t.split);
      last = λ _. omega arith;
    }
