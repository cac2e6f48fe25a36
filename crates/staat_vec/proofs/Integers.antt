-- Whole numbers: signs, opposites, products, and what follows of numbers that are 0.
use Rattle.std.proofs.Common.{arith, inl, inr, negsuc, pos, refl, suc, zero, ℤ, ◌≡◌, ◌≢◌, ◌⊎◌, ◌≤ℤ◌, ◌<ℤ◌, ℕ, ◌≤◌, neg_ℤ, ◌-ℤ◌, ◌*ℤ◌, ap, ◌∙◌, [], ◌∷◌, subst, ◌+ℤ◌, ◌+◌, List, sum, of_z, to_z, ◌<◌, ◌^◌}
use Rattle.std.proofs.lemmas.Int.{ints, fits_signed_from_abs, to_z-of_z}
use Rattle.staat_vec.proofs.Ring.{at, num, ring, ◌⊖◌, ◌⊗◌}
use Rattle.staat_vec.proofs.Order.{negative_mul, nonneg_mul, nonneg_pos}
use Rattle.std.proofs.lemmas.List.Sums.{sum_by-cons}
use Rattle.std.specs.Prelude.{◌↔◌, IsTrue, unsigned_abs}
use Rattle.std.specs.Int.{w64}
use Rattle.std.specs.Int.Signed.{lt_z}

-- ---- what a test tells

pub is_less : (a b : ℤ) → IsTrue (lt_z a b) ↔ (a <ℤ b)
is_less a b = (λ h. grind (arith, ints, h), λ h. grind (arith, ints, h))

-- ---- 0, and what stands on either side of it

pub zero_or : (a : ℤ) → (a ≡ pos 0) ⊎ (a ≢ pos 0)
zero_or (pos zero) = inl refl
zero_or a = inr (λ e. omega (arith, ints))

pub zero_nonneg : (a : ℤ) → a ≡ pos 0 → pos 0 ≤ℤ a
zero_nonneg a e = omega (arith, ints)

pub zero_nonpositive : (a : ℤ) → a ≡ pos 0 → a ≤ℤ pos 0
zero_nonpositive a e = omega (arith, ints)

pub zero_not_positive : (a : ℤ) → a ≡ pos 0 → pos 0 <ℤ a → ⊥
zero_not_positive a e h = omega (arith, ints)

pub zero_not_negative : (a : ℤ) → a ≡ pos 0 → a <ℤ pos 0 → ⊥
zero_not_negative a e h = omega (arith, ints)

pub positive_not_zero : (z : ℤ) → pos 0 <ℤ z → z ≡ pos 0 → ⊥
positive_not_zero z h e = omega (arith, ints)

pub positive_from_nonneg : (a : ℤ) → pos 0 ≤ℤ a → a ≢ pos 0 → pos 0 <ℤ a
positive_from_nonneg (pos zero) h some = absurd (some refl)
positive_from_nonneg a h some = omega (arith, ints)

pub negative_nonpositive : (a : ℤ) → a <ℤ pos 0 → a ≤ℤ pos 0
negative_nonpositive a h = omega (arith, ints)

pub negative_nonneg_clash : (a : ℤ) → a <ℤ pos 0 → pos 0 ≤ℤ a → ⊥
negative_nonneg_clash a h g = omega (arith, ints)

pub positive_nonpositive_clash : (a : ℤ) → pos 0 <ℤ a → a ≤ℤ pos 0 → ⊥
positive_nonpositive_clash a h g = omega (arith, ints)

pub zero_from_bounds : (a : ℤ) → pos 0 ≤ℤ a → a ≤ℤ pos 0 → a ≡ pos 0
zero_from_bounds a h g = omega (arith, ints)

pub zero_from_bounds_down : (p : ℤ) → p ≤ℤ pos 0 → pos 0 ≤ℤ p → p ≡ pos 0
zero_from_bounds_down p h g = omega (arith, ints)

pub positive_pos : (k : ℕ) → 1 ≤ k → pos 0 <ℤ pos k
positive_pos k h = omega (arith, ints)

-- ---- opposites

pub opposite_zero : (p q : ℤ) → p ≡ neg_ℤ q → q ≡ pos 0 → p ≡ pos 0
opposite_zero p q e h = omega (arith, ints)

pub opposite_zero_back : (p q : ℤ) → p ≡ neg_ℤ q → p ≡ pos 0 → q ≡ pos 0
opposite_zero_back p q e h = omega (arith, ints)

pub zero_from_opposite : (a : ℤ) → neg_ℤ a ≡ pos 0 → a ≡ pos 0
zero_from_opposite a e = omega (arith, ints)

pub opposite_negative : (a z : ℤ) → a ≡ neg_ℤ z → pos 0 <ℤ z → a <ℤ pos 0
opposite_negative a z e h = omega (arith, ints)

pub opposite_negative_back : (p q : ℤ) → p ≡ neg_ℤ q → pos 0 <ℤ p → q <ℤ pos 0
opposite_negative_back p q e h = omega (arith, ints)

pub turned_negative : (a b : ℤ) → b ≡ neg_ℤ a → pos 0 <ℤ a → b <ℤ pos 0
turned_negative a b e lt = omega (arith, ints, e, lt)

pub opposite_positive_back : (p q : ℤ) → p ≡ neg_ℤ q → p <ℤ pos 0 → pos 0 <ℤ q
opposite_positive_back p q e h = omega (arith, ints)

pub opposite_nonneg : (p q : ℤ) → p ≡ neg_ℤ q → q ≤ℤ pos 0 → pos 0 ≤ℤ p
opposite_nonneg p q e h = omega (arith, ints)

pub opposite_nonpositive : (p q : ℤ) → p ≡ neg_ℤ q → pos 0 ≤ℤ q → p ≤ℤ pos 0
opposite_nonpositive p q e h = omega (arith, ints)

pub opposite_nonpositive_back : (p q : ℤ) → p ≡ neg_ℤ q → pos 0 ≤ℤ p → q ≤ℤ pos 0
opposite_nonpositive_back p q e h = omega (arith, ints)

-- ---- products

pub mul-comm_ℤ : (t a : ℤ) → t *ℤ a ≡ a *ℤ t
mul-comm_ℤ t a = omega (arith, ints)

pub mul-zero_ℤ : (a : ℤ) → a *ℤ pos 0 ≡ pos 0
mul-zero_ℤ a = omega (arith, ints)

pub product_zero : (a b : ℤ) → b ≡ pos 0 → a *ℤ b ≡ pos 0
product_zero a b e = ap (λ z. a *ℤ z) e ∙ mul-zero_ℤ a

pub products_zero : (a b p q : ℤ) → p ≡ pos 0 → q ≡ pos 0 → a *ℤ p -ℤ b *ℤ q ≡ pos 0
products_zero a b p q e f = (λ i. a *ℤ e i -ℤ b *ℤ f i) ∙ ring (a ∷ b ∷ []) (at 0 ⊗ num (pos 0) ⊖ at 1 ⊗ num (pos 0)) (num (pos 0)) tt

pub products_swapped : (a b : ℤ) → a *ℤ b -ℤ b *ℤ a ≡ pos 0
products_swapped a b = ring (a ∷ b ∷ []) (at 0 ⊗ at 1 ⊖ at 1 ⊗ at 0) (num (pos 0)) tt

pub other_factor_zero : (a b : ℤ) → a ≢ pos 0 → a *ℤ b ≡ pos 0 → b ≡ pos 0
other_factor_zero (pos zero) b n e = absurd (n refl)
other_factor_zero a (pos zero) n e = refl
other_factor_zero a b n e = absurd (omega (arith, ints))

pub cancel_positive : (a t : ℤ) → pos 0 <ℤ a → pos 0 <ℤ (a *ℤ t) → pos 0 <ℤ t
cancel_positive (pos (suc a)) (pos (suc t)) h g = omega (arith, ints)
cancel_positive a t h g = absurd (omega (arith, ints))

pub two_negatives : (a b : ℤ) → a <ℤ pos 0 → b <ℤ pos 0 → pos 0 <ℤ (a *ℤ b)
two_negatives (negsuc a) (negsuc b) h k = omega (arith, ints)
two_negatives a b h k = absurd (omega (arith, ints))

pub mixed_product : (k p : ℤ) → k <ℤ pos 0 → pos 0 <ℤ p → (k *ℤ p) <ℤ pos 0
mixed_product k p h g = subst (λ z. z <ℤ pos 0) (ring (p ∷ k ∷ []) (at 0 ⊗ at 1) (at 1 ⊗ at 0) tt) (negative_mul p k g h)

pub positive_nonpositive_mul : (k x : ℤ) → pos 0 <ℤ k → x ≤ℤ pos 0 → (k *ℤ x) ≤ℤ pos 0
positive_nonpositive_mul (pos (suc k)) (pos (suc x)) h g = absurd (omega (arith, ints))
positive_nonpositive_mul k x h g = omega (arith, ints)

pub pos-sum : (a b : ℕ) (m : ℤ) → pos (a + b) *ℤ m ≡ (pos a *ℤ m) +ℤ (pos b *ℤ m)
pos-sum a b m = omega (arith, ints)

pub sum_mul : (w : ℕ) (ws : List ℕ) (m : ℤ) → pos (sum (w ∷ ws)) *ℤ m ≡ (pos w *ℤ m) +ℤ (pos (sum ws) *ℤ m)
sum_mul w ws m = ap (λ (k : ℕ). pos k *ℤ m) (sum_by-cons (λ x. x) w ws) ∙ pos-sum w (sum ws) m

pub pos_mul_le : (w : ℕ) (m k : ℤ) → m ≤ℤ k → (pos w *ℤ m) ≤ℤ (pos w *ℤ k)
pos_mul_le w m k h = back (pos w *ℤ m) (pos w *ℤ k) (pos w *ℤ (k -ℤ m)) (ring (pos w ∷ m ∷ k ∷ []) (at 0 ⊗ (at 2 ⊖ at 1)) (at 0 ⊗ at 2 ⊖ at 0 ⊗ at 1) tt) (nonneg_mul (pos w) (k -ℤ m) (nonneg_pos w) (ahead m k h))
  where
    ahead : (m k : ℤ) → m ≤ℤ k → pos 0 ≤ℤ (k -ℤ m)
    ahead m k h = omega (arith, ints)

    back : (a b c : ℤ) → c ≡ b -ℤ a → pos 0 ≤ℤ c → a ≤ℤ b
    back a b c e h = omega (arith, ints)

-- ---- sums and order

pub add-comm_ℤ : (x y : ℤ) → x +ℤ y ≡ y +ℤ x
add-comm_ℤ x y = omega (arith, ints)

pub sum_zero : (a b : ℤ) → a ≡ pos 0 → b ≡ pos 0 → a +ℤ b ≡ pos 0
sum_zero a b e f = omega (arith, ints)

pub le_trans_ℤ : (a b c : ℤ) → a ≤ℤ b → b ≤ℤ c → a ≤ℤ c
le_trans_ℤ a b c h g = omega (arith, ints)

pub add_one_le : (b a c : ℤ) → c ≡ b -ℤ a → pos 0 <ℤ c → (a +ℤ pos 1) ≤ℤ b
add_one_le b a c e h = omega (arith, ints)

pub le_from_difference : (high low x y z : ℤ) → high ≡ x → low ≡ y → z ≡ y -ℤ x → pos 0 ≤ℤ z → high ≤ℤ low
le_from_difference high low x y z a b e h = omega (arith, ints, a, b, e, h)

pub span_nonneg : (x y high low z : ℤ) → z ≡ y -ℤ x → x ≤ℤ high → low ≤ℤ y → high ≤ℤ low → pos 0 ≤ℤ z
span_nonneg x y high low z e h g k = omega (arith, ints, e, h, g, k)

-- ---- machine words

pub reads_word : (z : ℤ) → unsigned_abs z < 2 ^ 63 → to_z w64 (of_z w64 z) ≡ z
reads_word z h = to_z-of_z w64 z (fits_signed_from_abs w64 z (omega arith))
