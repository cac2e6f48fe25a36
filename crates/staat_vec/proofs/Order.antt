-- Signs of sums and products of whole numbers, stated over variables: cite them where a term is a dot product or another long sum, which `omega` would take apart.
use Rattle.std.proofs.Common.{◌≡◌, ◌≢◌, ℕ, zero, suc, ◌≤◌, refl, arith, ℤ, pos, negsuc, ◌+ℤ◌, ◌-ℤ◌, ◌*ℤ◌, neg_ℤ, ◌≤ℤ◌, ◌<ℤ◌, unsigned_abs, ◌⊎◌, inl, inr}
use Rattle.std.proofs.lemmas.Int.{ints}

-- ---- along an equation

pub nonneg_is : (p q : ℤ) → p ≡ q → pos 0 ≤ℤ q → pos 0 ≤ℤ p
nonneg_is p q e h = omega (arith, ints)

pub positive_is : (p q : ℤ) → p ≡ q → pos 0 <ℤ q → pos 0 <ℤ p
positive_is p q e h = omega (arith, ints)

pub negative_is : (p q : ℤ) → p ≡ q → q <ℤ pos 0 → p <ℤ pos 0
negative_is p q e h = omega (arith, ints)

pub nonneg_pos : (n : ℕ) → pos 0 ≤ℤ pos n
nonneg_pos n = omega (arith, ints)

-- ---- sums

pub add_nonneg : (a b : ℤ) → pos 0 ≤ℤ a → pos 0 ≤ℤ b → pos 0 ≤ℤ (a +ℤ b)
add_nonneg a b h g = omega (arith, ints)

pub nonneg_sum : (p k q : ℤ) → p ≡ k +ℤ q → pos 0 ≤ℤ k → pos 0 ≤ℤ q → pos 0 ≤ℤ p
nonneg_sum p k q e h g = omega (arith, ints)

pub positive_sum : (p k q : ℤ) → p ≡ k +ℤ q → pos 0 ≤ℤ k → pos 0 <ℤ q → pos 0 <ℤ p
positive_sum p k q e h g = omega (arith, ints)

-- two numbers of at least 0 whose sum is at most 0
pub split_sum : (p q r : ℤ) → r ≡ p +ℤ q → r ≤ℤ pos 0 → pos 0 ≤ℤ p → pos 0 ≤ℤ q → (p ≤ℤ pos 0) × (q ≤ℤ pos 0)
split_sum p q r e h hp hq = (omega (arith, ints), omega (arith, ints))

-- ---- products

pub nonneg_mul : (a b : ℤ) → pos 0 ≤ℤ a → pos 0 ≤ℤ b → pos 0 ≤ℤ (a *ℤ b)
nonneg_mul (pos a) (pos b) h k = omega (arith, ints)
nonneg_mul a b h k = absurd (omega (arith, ints))

pub pos_mul : (a b : ℤ) → pos 0 <ℤ a → pos 0 <ℤ b → pos 0 <ℤ (a *ℤ b)
pos_mul (pos (suc a)) (pos (suc b)) h k = omega (arith, ints)
pos_mul a b h k = absurd (omega (arith, ints))

pub negative_mul : (a b : ℤ) → pos 0 <ℤ a → b <ℤ pos 0 → (a *ℤ b) <ℤ pos 0
negative_mul (pos (suc a)) (negsuc b) h k = omega (arith, ints)
negative_mul a b h k = absurd (omega (arith, ints))

-- two negative numbers
pub nonneg_turned : (a b : ℤ) → a <ℤ pos 0 → b <ℤ pos 0 → pos 0 ≤ℤ (a *ℤ b)
nonneg_turned (negsuc a) (negsuc b) h k = omega (arith, ints)
nonneg_turned a b h k = absurd (omega (arith, ints))

pub not_positive_mul : (t : ℕ) (p : ℤ) → p ≤ℤ pos 0 → (pos t *ℤ p) ≤ℤ pos 0
not_positive_mul t (pos (suc p)) h = absurd (omega (arith, ints))
not_positive_mul t p h = omega (arith, ints)

pub coefficient_nonneg : (p q : ℤ) (k : ℕ) → pos 0 ≤ℤ p → q <ℤ pos 0 → pos 0 ≤ℤ (p -ℤ pos k *ℤ q)
coefficient_nonneg p (pos n) k h g = absurd (omega (arith, ints))
coefficient_nonneg p (negsuc n) k h g = omega (arith, ints)

-- a multiple of a positive number is as great as any number of that size
pub bounded : (s q : ℤ) (k : ℕ) → unsigned_abs s ≤ k → pos 0 <ℤ q → s ≤ℤ (pos k *ℤ q)
bounded (pos s) (pos (suc q)) k h g = omega (arith, ints)
bounded (negsuc s) (pos (suc q)) k h g = omega (arith, ints)
bounded s q k h g = absurd g.lt

-- ---- squares

pub square_sign : (a : ℤ) → (a ≡ pos 0) ⊎ (pos 0 <ℤ (a *ℤ a))
square_sign (pos zero) = inl refl
square_sign (pos (suc n)) = inr (omega (arith, ints))
square_sign (negsuc n) = inr (omega (arith, ints))

pub square_nonneg : (a : ℤ) → pos 0 ≤ℤ (a *ℤ a)
square_nonneg (pos n) = omega (arith, ints)
square_nonneg (negsuc n) = omega (arith, ints)

-- ---- a factor taken away

pub cancel_nonneg : (a t : ℤ) → pos 0 <ℤ a → pos 0 ≤ℤ (a *ℤ t) → pos 0 ≤ℤ t
cancel_nonneg (pos (suc a)) (pos t) h g = omega (arith, ints)
cancel_nonneg a t h g = absurd (omega (arith, ints))

pub cancel_not_positive : (k : ℕ) (p : ℤ) → 1 ≤ k → (pos k *ℤ p) ≤ℤ pos 0 → p ≤ℤ pos 0
cancel_not_positive (suc k) (pos (suc p)) h g = absurd (omega (arith, ints))
cancel_not_positive k p h g = omega (arith, ints)

pub cancel_zero : (k : ℕ) (p : ℤ) → 1 ≤ k → pos k *ℤ p ≡ pos 0 → p ≡ pos 0
cancel_zero (suc k) (pos p) h g = omega (arith, ints)
cancel_zero k p h g = absurd (omega (arith, ints))

-- a product with a negative number is 0
pub zero_factor : (a b : ℤ) → b <ℤ pos 0 → a *ℤ b ≡ pos 0 → a ≡ pos 0
zero_factor a (pos b) h e = absurd (omega (arith, ints))
zero_factor (pos a) (negsuc b) h e = omega (arith, ints)
zero_factor (negsuc a) (negsuc b) h e = absurd (omega (arith, ints))

pub tight_factor : (m : ℕ) (p : ℤ) → 1 ≤ m → pos 0 ≤ℤ p → (pos m *ℤ p) ≤ℤ pos 0 → p ≡ pos 0
tight_factor (suc m) (pos zero) h g i = refl
tight_factor m p h g i = absurd (omega (arith, ints))

-- a sum of products is negative, though all but one factor are at least 0
pub negative_factor : (a b p q : ℤ) → pos 0 ≤ℤ a → pos 0 ≤ℤ b → pos 0 ≤ℤ p → (a *ℤ p +ℤ b *ℤ q) <ℤ pos 0 → q <ℤ pos 0
negative_factor a b p (negsuc q) h g i j = omega (arith, ints)
negative_factor a b p (pos q) h g i j =
    let k = nonneg_mul a p h i in
    let l = nonneg_mul b (pos q) g (omega (arith, ints)) in
    absurd (contra (a *ℤ p) (b *ℤ pos q) k l j)
  where
    contra : (x y : ℤ) → pos 0 ≤ℤ x → pos 0 ≤ℤ y → (x +ℤ y) <ℤ pos 0 → ⊥
    contra x y h g i = omega (arith, ints)

-- two equal products with negative second factors have first factors on one side of 0
pub same_side : (p q r s : ℤ) → p *ℤ q ≡ r *ℤ s → q <ℤ pos 0 → s <ℤ pos 0 → pos 0 ≤ℤ r → pos 0 ≤ℤ p
same_side (pos p) q r s e hq hs hr = omega (arith, ints)
same_side (negsuc p) (negsuc q) (pos r) (negsuc s) e hq hs hr = absurd (omega (arith, ints))
same_side p q r s e hq hs hr = absurd (omega (arith, ints))

-- ---- negatives

pub turned_nonneg : (a : ℤ) → a <ℤ pos 0 → pos 0 ≤ℤ (pos 0 -ℤ a)
turned_nonneg a h = omega (arith, ints)

pub turned_positive : (a : ℤ) → a <ℤ pos 0 → pos 0 <ℤ (pos 0 -ℤ a)
turned_positive a h = omega (arith, ints)

pub turned_sign : (p q : ℤ) → p ≡ negsuc 0 *ℤ q → pos 0 ≤ℤ q → q ≢ pos 0 → p <ℤ pos 0
turned_sign p (pos zero) e h n = absurd (n refl)
turned_sign p q e h n = omega (arith, ints)

pub positive_nonneg : (a : ℤ) → pos 0 <ℤ a → pos 0 ≤ℤ a
positive_nonneg a h = omega (arith, ints)

pub zero_between : (a : ℤ) → pos 0 ≤ℤ a → pos 0 ≤ℤ (negsuc 0 *ℤ a) → a ≡ pos 0
zero_between a h g = omega (arith, ints)

pub negative_apart : (a : ℤ) → a <ℤ pos 0 → a ≢ pos 0
negative_apart a h e = omega (arith, ints)

-- ---- as numbers of one sign

pub as_nat : (a : ℤ) → pos 0 ≤ℤ a → (n : ℕ) × (a ≡ pos n)
as_nat (pos n) h = (n, refl)
as_nat (negsuc n) h = absurd h.le

pub as_positive : (a : ℤ) → pos 0 <ℤ a → (n : ℕ) × (1 ≤ n) × (a ≡ pos n)
as_positive (pos (suc n)) h = (suc n, omega arith, refl)
as_positive a h = absurd h.lt

pub as_negative : (a : ℤ) → a <ℤ pos 0 → (n : ℕ) × (1 ≤ n) × (a ≡ neg_ℤ (pos n))
as_negative (pos n) h = absurd (omega (arith, ints))
as_negative (negsuc n) h = (suc n, omega arith, refl)
