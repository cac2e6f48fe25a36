-- Numbers far below the limit of a machine's signed type: each is read from it as it was written, and sums,
-- differences and negatives are exact.
use Rattle.std.proofs.Common.{◌≡◌, ◌∙◌, ◌<◌, ◌≤◌, ◌+◌, ◌*◌, ◌^◌, ℕ, ℤ, pos, ◌+ℤ◌, ◌-ℤ◌, ◌*ℤ◌, neg_ℤ, FitsSigned, arith, of_z, to_z, unsigned_abs}
use Rattle.std.specs.Int.{Width, w64, w128}
use Rattle.std.proofs.lemmas.Int.{fits_signed_from_abs, ints, to_z-of_z}
use mir.Val.{hbits}
use Rattle.staat_vec.proofs.Bounds.{abs_diff_le, abs_sum_le}

pub read_back : (w : Width) (z : ℤ) (n : ℕ) → unsigned_abs z ≤ n → n < 2 ^ hbits w → to_z w (of_z w z) ≡ z
read_back w z n h k = to_z-of_z w z (fits_signed_from_abs w z (omega arith))

pub within_back : (w : Width) (z : ℤ) (m n : ℕ) → unsigned_abs z ≤ m → m < 2 ^ hbits w → m ≤ n → unsigned_abs (to_z w (of_z w z)) ≤ n
within_back w z m n h k l = rw (read_back w z m h k) (omega arith)

pub plus_fits : (w : Width) (a b : ℤ) (m n : ℕ) → unsigned_abs a ≤ m → unsigned_abs b ≤ n → m + n < 2 ^ hbits w → FitsSigned w (to_z w (of_z w a) +ℤ to_z w (of_z w b))
plus_fits w a b m n h k l =
    rw (read_back w a m h (omega arith), read_back w b n k (omega arith))
    (fits_signed_from_abs w (a +ℤ b) (omega (arith, abs_sum_le a b m n h k)))

pub plus_read : (w : Width) (a b : ℤ) (m n : ℕ) → unsigned_abs a ≤ m → unsigned_abs b ≤ n → m + n < 2 ^ hbits w → to_z w (of_z w (to_z w (of_z w a) +ℤ to_z w (of_z w b))) ≡ a +ℤ b
plus_read w a b m n h k l =
    rw (read_back w a m h (omega arith), read_back w b n k (omega arith))
    (read_back w (a +ℤ b) (m + n) (abs_sum_le a b m n h k) l)

pub minus_fits : (w : Width) (a b : ℤ) (m n : ℕ) → unsigned_abs a ≤ m → unsigned_abs b ≤ n → m + n < 2 ^ hbits w → FitsSigned w (to_z w (of_z w a) -ℤ to_z w (of_z w b))
minus_fits w a b m n h k l =
    rw (read_back w a m h (omega arith), read_back w b n k (omega arith))
    (fits_signed_from_abs w (a -ℤ b) (omega (arith, abs_diff_le a b m n h k)))

pub minus_read : (w : Width) (a b : ℤ) (m n : ℕ) → unsigned_abs a ≤ m → unsigned_abs b ≤ n → m + n < 2 ^ hbits w → to_z w (of_z w (to_z w (of_z w a) -ℤ to_z w (of_z w b))) ≡ a -ℤ b
minus_read w a b m n h k l =
    rw (read_back w a m h (omega arith), read_back w b n k (omega arith))
    (read_back w (a -ℤ b) (m + n) (abs_diff_le a b m n h k) l)

none_minus : (z : ℤ) → pos 0 -ℤ z ≡ neg_ℤ z
none_minus z = omega (arith, ints)

neg_abs : (z : ℤ) (n : ℕ) → unsigned_abs z ≤ n → unsigned_abs (neg_ℤ z) ≤ n
neg_abs z n h = omega (arith, ints)

pub neg_fits : (w : Width) (z : ℤ) (n : ℕ) → unsigned_abs z ≤ n → n < 2 ^ hbits w → FitsSigned w (pos 0 -ℤ to_z w (of_z w z))
neg_fits w z n h k = rw (read_back w z n h k, none_minus z) (fits_signed_from_abs w (neg_ℤ z) (omega (arith, neg_abs z n h)))

pub neg_read : (w : Width) (z : ℤ) (n : ℕ) → unsigned_abs z ≤ n → n < 2 ^ hbits w → to_z w (of_z w (pos 0 -ℤ to_z w (of_z w z))) ≡ neg_ℤ z
neg_read w z n h k = rw (read_back w z n h k, none_minus z) (read_back w (neg_ℤ z) n (neg_abs z n h) k)

-- ---- products, minors and sums of three

pub product_of : (w : Width) (r a b : ℤ) (m n : ℕ) → unsigned_abs a ≤ m → unsigned_abs b ≤ n → m < 2 ^ hbits w → n < 2 ^ hbits w → r ≡ to_z w (of_z w a) *ℤ to_z w (of_z w b) → r ≡ a *ℤ b
product_of w r a b m n ha hb hm hn e = e ∙ rw (read_back w a m ha hm, read_back w b n hb hn)

-- of words that numbers were cast to
pub of_words : (r a b p q : ℤ) (m n : ℕ) → unsigned_abs a ≤ m → unsigned_abs b ≤ n → m < 2 ^ hbits w64 → n < 2 ^ hbits w64 → p ≡ to_z w128 (of_z w128 a) → q ≡ to_z w128 (of_z w128 b)
    → r ≡ to_z w64 (of_z w64 p) *ℤ to_z w64 (of_z w64 q) → r ≡ a *ℤ b
of_words r a b p q m n ha hb hm hn e f g =
    product_of w64 r a b m n ha hb hm hn
    (g ∙ (λ i. to_z w64 (of_z w64 ((e ∙ read_back w128 a m ha (omega arith)) i)) *ℤ to_z w64 (of_z w64 ((f ∙ read_back w128 b n hb (omega arith)) i))))

pub minor_of : (w : Width) (r a b c d : ℤ) (m n : ℕ) → unsigned_abs a ≤ n → unsigned_abs b ≤ n → unsigned_abs c ≤ n → unsigned_abs d ≤ n → n < 2 ^ hbits w
    → unsigned_abs r ≤ m → m < 2 ^ hbits w → r ≡ (to_z w (of_z w a) *ℤ to_z w (of_z w d)) -ℤ (to_z w (of_z w b) *ℤ to_z w (of_z w c)) → to_z w (of_z w r) ≡ (a *ℤ d) -ℤ (b *ℤ c)
minor_of w r a b c d m n ha hb hc hd hn hr hm e =
    read_back w r m hr hm ∙ e
    ∙ rw (read_back w a n ha hn, read_back w d n hd hn, read_back w b n hb hn, read_back w c n hc hn)

three_within : (a b c : ℤ) (n : ℕ) → unsigned_abs a ≤ n → unsigned_abs b ≤ n → unsigned_abs c ≤ n → unsigned_abs ((a +ℤ b) +ℤ c) ≤ 3 * n
three_within a b c n ha hb hc = omega (arith, abs_sum_le (a +ℤ b) c (n + n) n (abs_sum_le a b n n ha hb) hc)

pub three_fits : (w : Width) (a b c : ℤ) (n : ℕ) → unsigned_abs a ≤ n → unsigned_abs b ≤ n → unsigned_abs c ≤ n → 3 * n < 2 ^ hbits w
    → FitsSigned w (to_z w (of_z w (to_z w (of_z w a) +ℤ to_z w (of_z w b))) +ℤ to_z w (of_z w c))
three_fits w a b c n ha hb hc k =
    rw (plus_read w a b n n ha hb (omega arith), read_back w c n hc (omega arith))
    (fits_signed_from_abs w ((a +ℤ b) +ℤ c) (omega (arith, three_within a b c n ha hb hc)))

pub three_read : (w : Width) (a b c : ℤ) (n : ℕ) → unsigned_abs a ≤ n → unsigned_abs b ≤ n → unsigned_abs c ≤ n → 3 * n < 2 ^ hbits w
    → to_z w (of_z w (to_z w (of_z w (to_z w (of_z w a) +ℤ to_z w (of_z w b))) +ℤ to_z w (of_z w c))) ≡ (a +ℤ b) +ℤ c
three_read w a b c n ha hb hc k =
    rw (plus_read w a b n n ha hb (omega arith), read_back w c n hc (omega arith))
    (read_back w ((a +ℤ b) +ℤ c) (3 * n) (three_within a b c n ha hb hc) k)
