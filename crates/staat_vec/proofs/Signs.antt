-- The sign of a number, and the number of a sign.
use Rattle.staat_vec.specs.declared.vector.Sign.TheVariants.{Zero, Pos, Neg}
use Rattle.std.proofs.Common.{negsuc, pos, refl, suc, zero, ℕ, ℤ, ◌≡◌, ◌≤◌, ap, arith, ◌<ℤ◌, ◌*ℤ◌, ◌≢◌, inl, inr, ◌⊎◌}
use Rattle.staat_vec.specs.Vectors.{sign}
use Rattle.std.proofs.lemmas.Int.{ints}
use Rattle.staat_vec.specs.declared.vector.Sign.{Sign}
use Rattle.staat_vec.proofs.Integers.{mul-zero_ℤ}
use Rattle.staat_vec.proofs.Order.{negative_mul, pos_mul}

pub zero_sign : (z : ℤ) → sign z ≡ Zero → z ≡ pos 0
zero_sign (pos zero) e = refl
zero_sign z e = cc

pub sign_positive : (z : ℤ) → sign z ≡ Pos → pos 0 <ℤ z
sign_positive (pos (suc n)) e = omega (arith, ints)
sign_positive z e = absurd cc

pub sign_negative : (z : ℤ) → sign z ≡ Neg → z <ℤ pos 0
sign_negative (negsuc n) e = omega (arith, ints)
sign_negative (pos zero) e = absurd cc
sign_negative z e = absurd cc

pub positive_sign : (a : ℤ) → pos 0 <ℤ a → sign a ≡ Pos
positive_sign (pos (suc n)) h = refl
positive_sign a h = absurd h.lt

pub negative_sign : (a : ℤ) → a <ℤ pos 0 → sign a ≡ Neg
negative_sign (pos n) h = absurd (omega (arith, ints))
negative_sign (negsuc n) h = refl

pub sign_some : (a : ℤ) → a ≢ pos 0 → sign a ≢ Zero
sign_some (pos zero) n e = n refl
sign_some a n e = cc

pub sign_zero_or : (t : Sign) → (t ≡ Zero) ⊎ (t ≢ Zero)
sign_zero_or Zero = inl refl
sign_zero_or t = inr (λ e. cc)

-- a positive factor keeps the sign
pub sign_times : (a : ℕ) (x : ℤ) → sign (pos (suc a) *ℤ x) ≡ sign x
sign_times a (pos zero) = ap sign (mul-zero_ℤ (pos (suc a)))
sign_times a (pos (suc n)) = positive_sign (pos (suc a) *ℤ pos (suc n)) (pos_mul (pos (suc a)) (pos (suc n)) (omega (arith, ints)) (omega (arith, ints)))
sign_times a (negsuc n) = negative_sign (pos (suc a) *ℤ negsuc n) (negative_mul (pos (suc a)) (negsuc n) (omega (arith, ints)) (omega (arith, ints)))

pub times_sign : (k : ℕ) (a : ℤ) → 1 ≤ k → sign (pos k *ℤ a) ≡ sign a
times_sign zero a h = absurd (omega arith)
times_sign (suc k) a h = sign_times k a
