-- Lists of signs as digits: how great the number is, in what order the numbers are, and zeros that give way.
use Rattle.std.proofs.Common.{◌≡◌, ℕ, zero, suc, ◌+◌, ◌-◌, ◌*◌, ◌^◌, ◌<◌, ◌≤◌, ap, sym, ◌∙◌, refl, arith, List, []}
use Rattle.std.proofs.Common.{◌∷◌, length, take, drop, min, ◌%◌, ◌⊎◌, inl, inr, subst, get_or, zero-add, ◌++◌, ◌/◌}
use Rattle.std.specs.Ordering.{nat_cmp, ordering_then}
use Rattle.std.specs.Cmp.{nat_cmp_is}
use Rattle.std.proofs.lemmas.Cmp.{by_ranked, ranked}
use Rattle.std.specs.declared.cmp.Ordering.{Ordering}
use Rattle.std.specs.declared.cmp.Ordering.TheVariants.{Less, Equal, Greater}
use Rattle.std.proofs.Math.Nat.{pow-suc, pow-le-pow_right, mul_assoc, mul_comm, mul-le-mul_right, add_comm}
use Rattle.std.proofs.lemmas.List.{drop-drop, drop_all, length-take, length-drop, length-set, get_or-take}
use Rattle.std.proofs.lemmas.List.{get_or-drop, take-set-le, drop-set-lt, drop-set-add, length-take-le}
use Rattle.std.proofs.lemmas.List.{take-append-drop, drop-map, length-map, take-map}
use Rattle.staat_vec.specs.declared.vector.Sign.{Sign}
use Rattle.staat_vec.specs.declared.vector.Sign.TheVariants.{Neg, Zero, Pos}
use Rattle.staat_model.specs.Cells.{sign_place, signs_cmp}
use Rattle.staat_cells.specs.Packing.{packed, packed_after, incidence_cmp, incidence_of}
use Rattle.staat_vec.proofs.Comparisons.{nat_cmp-less}
use Rattle.std.specs.Prelude.{slice_set, bit_and}
use Rattle.std.proofs.Math.Seq.{take-set-lt}
use Rattle.std.proofs.lemmas.Nat.{one_shl, pow-add, and_mod, and_shr}
use Rattle.staat_cells.specs.ZeroSigns.{IsZeroAt}
use Rattle.staat_cells.specs.Beside.{filled, then_sign}

-- ---- size

pub place_small : (x : Sign) → sign_place x ≤ 2
place_small Neg = omega arith
place_small Zero = omega arith
place_small Pos = omega arith

pub next_fits : (n i p : ℕ) → n < 4 ^ i → i < 32 → p ≤ 2 → n * 4 + p < 2 ^ 64
next_fits n i p lt h le =
    let power : 4 ^ suc i ≤ 4 ^ 32 = pow-le-pow_right {n = 4} (omega arith) {i = suc i} {j = 32} (omega arith) in
    let step = pow-suc 4 i in
    omega (arith, power, step)

-- ---- pieces of a list

pub length_taken : (s : List Sign) → length (take 64 s) ≤ 64
length_taken s = let e = length-take 64 s in omega (arith, e)

-- ---- order

-- a lesser number stays less, whatever packed follow
pub less_after : (a b : ℕ) (s t : List Sign) → a < b → length s ≡ length t → packed_after a s < packed_after b t
less_after a b [] [] lt e = lt
less_after a b [] (y ∷ t) lt e = absurd (omega arith)
less_after a b (x ∷ s) [] lt e = absurd (omega arith)
less_after a b (x ∷ s) (y ∷ t) lt e = let p = place_small x in less_after (a * 4 + sign_place x) (b * 4 + sign_place y) s t (omega (arith, p)) (omega arith)

greater_is : (m n : ℕ) → n < m → nat_cmp m n ≡ Greater
greater_is m n lt = sym (nat_cmp_is m n Greater lt)

-- the packed are ordered as the signs
pub packed_order : (a : ℕ) (s t : List Sign) → length s ≡ length t → nat_cmp (packed_after a s) (packed_after a t) ≡ signs_cmp s t
packed_order a [] [] e = sym (nat_cmp_is a a Equal refl)
packed_order a [] (y ∷ t) e = absurd (omega arith)
packed_order a (x ∷ s) [] e = absurd (omega arith)
packed_order a (x ∷ s) (y ∷ t) e = by_ranked (sign_place x < sign_place y) (sign_place x ≡ sign_place y) (sign_place y < sign_place x) {G = nat_cmp (packed_after (a * 4 + sign_place x) s) (packed_after (a * 4 + sign_place y) t) ≡ signs_cmp (x ∷ s) (y ∷ t)}
    (nat_cmp (sign_place x) (sign_place y)) (ranked (sign_place x) (sign_place y) (nat_cmp (sign_place x) (sign_place y)) refl)
    (λ o lt. nat_cmp-less (packed_after (a * 4 + sign_place x) s) (packed_after (a * 4 + sign_place y) t) (less_after (a * 4 + sign_place x) (a * 4 + sign_place y) s t (omega arith) (omega arith)) ∙ sym (ap (λ r. ordering_then r (signs_cmp s t)) o))
    (λ o same. ap (λ n. nat_cmp (packed_after (a * 4 + sign_place x) s) (packed_after (a * 4 + n) t)) (sym same) ∙ packed_order (a * 4 + sign_place x) s t (omega arith) ∙ sym (ap (λ r. ordering_then r (signs_cmp s t)) o))
    (λ o gt. greater_is (packed_after (a * 4 + sign_place x) s) (packed_after (a * 4 + sign_place y) t) (less_after (a * 4 + sign_place y) (a * 4 + sign_place x) t s (omega arith) (omega arith)) ∙ sym (ap (λ r. ordering_then r (signs_cmp s t)) o))

then_then : (r s t : Ordering) → ordering_then (ordering_then r s) t ≡ ordering_then r (ordering_then s t)
then_then Less s t = refl
then_then Equal s t = refl
then_then Greater s t = refl

-- lists are compared piece by piece
pub split_order : (n : ℕ) (s t : List Sign) → length s ≡ length t → signs_cmp s t ≡ ordering_then (signs_cmp (take n s) (take n t)) (signs_cmp (drop n s) (drop n t))
split_order zero s t e = refl
split_order (suc n) [] [] e = refl
split_order (suc n) [] (y ∷ t) e = absurd (omega arith)
split_order (suc n) (x ∷ s) [] e = absurd (omega arith)
split_order (suc n) (x ∷ s) (y ∷ t) e =
    let o : Ordering = nat_cmp (sign_place x) (sign_place y) in
    ap (ordering_then o) (split_order n s t (omega arith)) ∙ sym (then_then o (signs_cmp (take n s) (take n t)) (signs_cmp (drop n s) (drop n t)))

same_drop : (n : ℕ) (s t : List Sign) → length s ≡ length t → length (drop n s) ≡ length (drop n t)
same_drop n s t e = length-drop n s ∙ ap (λ m. m - n) e ∙ sym (length-drop n t)

same_take : (n : ℕ) (s t : List Sign) → length s ≡ length t → length (take n s) ≡ length (take n t)
same_take n s t e = length-take n s ∙ ap (λ m. min n m) e ∙ sym (length-take n t)

-- the words of the signs from n on, and then what follows them
from_word : (n : ℕ) (s t : List Sign) (then_of : Ordering) → length s ≡ length t
    → ordering_then (nat_cmp (packed (take 64 (drop n s))) (packed (take 64 (drop n t))))
    (ordering_then (signs_cmp (drop (n + 64) s) (drop (n + 64) t)) then_of)
    ≡ ordering_then (signs_cmp (drop n s) (drop n t)) then_of
from_word n s t then_of e =
    let p = take 64 (drop n s) in
    let q = take 64 (drop n t) in
    let even = same_drop n s t e in
    (λ i. ordering_then (packed_order 0 p q (same_take 64 (drop n s) (drop n t) even) i)
    (ordering_then (signs_cmp (sym (drop-drop 64 n s) i) (sym (drop-drop 64 n t) i)) then_of))
    ∙ sym (then_then (signs_cmp p q) (signs_cmp (drop 64 (drop n s)) (drop 64 (drop n t))) then_of)
    ∙ ap (λ r. ordering_then r then_of) (sym (split_order 64 (drop n s) (drop n t) even))

-- the order of signs of at most 256 planes, and then of numbers
pub incidence_order : (s t : List Sign) (j k : ℕ) → length s ≡ length t → length s ≤ 256 → incidence_cmp (incidence_of s j) (incidence_of t k) ≡ ordering_then (signs_cmp s t) (nat_cmp j k)
incidence_order s t j k e le =
    let of : Ordering = nat_cmp j k in
    let word : ℕ → Ordering = λ n. nat_cmp (packed (take 64 (drop n s))) (packed (take 64 (drop n t))) in
    let none : (l : List Sign) → length l ≤ 256 → drop 256 l ≡ [] = λ l le. drop_all 256 l le in
    ap (λ r. ordering_then (word 0) (ordering_then (word 64) (ordering_then (word 128) r)))
    ((λ i. ordering_then (word 192) (ordering_then (signs_cmp (sym (none s le) i) (sym (none t (omega (arith, e, le))) i)) of)) ∙ from_word 192 s t of e)
    ∙ ap (λ r. ordering_then (word 0) (ordering_then (word 64) r)) (from_word 128 s t of e)
    ∙ ap (λ r. ordering_then (word 0) r) (from_word 64 s t of e)
    ∙ from_word 0 s t of e

-- ---- powers

pub two_four : (m : ℕ) → 2 ^ (2 * m) ≡ 4 ^ m
two_four zero = refl
two_four (suc m) =
    let twice : 2 * suc m ≡ suc (suc (2 * m)) = omega arith in
    ap (λ n. 2 ^ n) twice ∙ (let a = pow-suc 2 (suc (2 * m)) in let b = pow-suc 2 (2 * m) in let c = pow-suc 4 m in let h = two_four m in omega (arith, a, b, c, h))

pub weight_is : (count k : ℕ) → k < count → count ≤ 64 → (1 * 2 ^ (2 * (count - 1 - k))) % 2 ^ 128 ≡ 4 ^ (count - 1 - k)
weight_is count k lt le = one_shl (2 * (count - 1 - k)) 128 (omega arith) ∙ two_four (count - 1 - k)

-- ---- packed

-- four times a number before a power
times_four : (c x y : ℕ) → y ≡ x * 4 → c * 4 * x ≡ c * y
times_four c x y e = mul_assoc c 4 x ∙ ap (λ n. c * n) (mul_comm 4 x ∙ sym e)

pub packed_more : (b c : ℕ) (s : List Sign) → packed_after (b + c) s ≡ packed_after b s + c * 4 ^ length s
packed_more b c [] = omega arith
packed_more b c (x ∷ s) =
    let p = sign_place x in
    let step : (b + c) * 4 + p ≡ (b * 4 + p) + c * 4 = omega arith in
    ap (λ n. packed_after n s) step ∙ packed_more (b * 4 + p) (c * 4) s ∙ ap (λ n. packed_after (b * 4 + p) s + n) (times_four c (4 ^ length s) (4 ^ length (x ∷ s)) (pow-suc 4 (length s)))

pub below : (a : ℕ) (s : List Sign) → packed_after a s < (a + 1) * 4 ^ length s
below a [] = omega arith
below a (x ∷ s) =
    let p = place_small x in
    let h = below (a * 4 + sign_place x) s in
    let le : (a * 4 + sign_place x + 1) * 4 ^ length s ≤ (a + 1) * 4 * 4 ^ length s = mul-le-mul_right (4 ^ length s) (omega (arith, p)) in
    let e = times_four (a + 1) (4 ^ length s) (4 ^ length (x ∷ s)) (pow-suc 4 (length s)) in
    omega (arith, h, e, le)

-- a sign in place of a zero
pub packed_set : (a : ℕ) (s : List Sign) (k : ℕ) (t : Sign) → k < length s → IsZeroAt s k
    → packed_after a (slice_set s k t) + 4 ^ (length s - 1 - k) ≡ packed_after a s + sign_place t * 4 ^ (length s - 1 - k)
packed_set a [] k t lt z = absurd (omega arith)
packed_set a (x ∷ s) zero t lt z =
    let last : length (x ∷ s) - 1 - 0 ≡ length s = omega arith in
    let new = packed_more (a * 4) (sign_place t) s in
    let old = ap (λ u. packed_after (a * 4 + sign_place u) s) z ∙ packed_more (a * 4) 1 s in
    subst (λ n. packed_after (a * 4 + sign_place t) s + 4 ^ n ≡ packed_after (a * 4 + sign_place x) s + sign_place t * 4 ^ n)
    (sym last) (omega (arith, new, old))
packed_set a (x ∷ s) (suc k) t lt z =
    let last : length s - 1 - k ≡ length (x ∷ s) - 1 - suc k = omega arith in
    let b = a * 4 + sign_place x in
    subst (λ n. packed_after b (slice_set s k t) + 4 ^ n ≡ packed_after b s + sign_place t * 4 ^ n) last
    (packed_set b s k t (omega arith) z)

-- ---- one word

pub packed_fits : (s : List Sign) → length s ≤ 64 → packed s < 2 ^ 128
packed_fits s le =
    let b = below 0 s in
    let power : 4 ^ length s ≤ 4 ^ 64 = pow-le-pow_right {n = 4} (omega arith) {i = length s} {j = 64} le in
    omega (arith, b, power)

-- sums and differences that fit in a word
pub wrapped_sum : (x y sum : ℕ) → x + y ≡ sum → sum < 2 ^ 128 → (x + y) % 2 ^ 128 ≡ sum
wrapped_sum x y sum e fits = omega arith

pub wrapped_difference : (x y left : ℕ) → left + y ≡ x → x < 2 ^ 128 → (x + (2 ^ 128 - y)) % 2 ^ 128 ≡ left
wrapped_difference x y left e fits = omega arith

module _ (word count k : ℕ) (lt : k < count) (le : count ≤ 64) (s : List Sign) (e : packed s ≡ word)
    (l : length s ≡ count) (z : IsZeroAt s k) where
  set : (t : Sign) → packed (slice_set s k t) + 4 ^ (count - 1 - k) ≡ word + sign_place t * 4 ^ (count - 1 - k)
  set t = subst (λ n. packed (slice_set s k t) + 4 ^ (n - 1 - k) ≡ packed s + sign_place t * 4 ^ (n - 1 - k)) l
      (packed_set 0 s k t (omega (arith, l, lt)) z) ∙ ap (λ n. n + sign_place t * 4 ^ (count - 1 - k)) e

  pub word_up : (word + 4 ^ (count - 1 - k)) % 2 ^ 128 ≡ packed (slice_set s k Pos)
  word_up = let up = set Pos in wrapped_sum word (4 ^ (count - 1 - k)) (packed (slice_set s k Pos)) (omega (arith, up))
      (packed_fits (slice_set s k Pos) (omega (arith, length-set s k Pos, l, le)))

  pub word_down : (word + (2 ^ 128 - 4 ^ (count - 1 - k))) % 2 ^ 128 ≡ packed (slice_set s k Neg)
  word_down = let down = set Neg in wrapped_difference word (4 ^ (count - 1 - k)) (packed (slice_set s k Neg))
      (omega (arith, down)) (subst (λ n. n < 2 ^ 128) e (packed_fits s (omega (arith, l, le))))

-- ---- four words

-- the word of the signs from n on, where the sign at k gives way at its place m
module _ (n m rest left : ℕ) (s : List Sign) (count k : ℕ) (long : length s ≡ count) (rest_is : rest ≡ count - n)
    (left_is : left ≡ min 64 rest) (zero_at : IsZeroAt s k) (at : n + m ≡ k) (lt : m < 64) where
  word_long : length (take 64 (drop n s)) ≡ left
  word_long =
      length-take 64 (drop n s) ∙ ap (min 64) (length-drop n s ∙ ap (λ j. j - n) long ∙ sym rest_is) ∙ sym left_is

  word_at : IsZeroAt (take 64 (drop n s)) m
  word_at = get_or-take 64 (drop n s) m Pos lt ∙ get_or-drop n s m Pos ∙ ap (λ j. get_or s j Pos) at ∙ zero_at

  pub word_given : (word new : ℕ) (t : Sign) → word ≡ packed (take 64 (drop n s))
      → ((l : List Sign) → packed l ≡ word → length l ≡ left → IsZeroAt l m → new ≡ packed (slice_set l m t))
      → new ≡ packed (take 64 (drop n (slice_set s k t)))
  word_given word new t e given =
      given (take 64 (drop n s)) (sym e) word_long word_at
      ∙ ap packed (sym (take-set-lt 64 (drop n s) m t lt)
      ∙ ap (take 64) (sym (drop-set-add n s m t) ∙ ap (λ j. drop n (slice_set s j t)) at))

-- that of the signs from n on, where the sign at k is not one of these
pub word_kept : (n k : ℕ) (s : List Sign) (t : Sign) (word : ℕ) → (k < n) ⊎ (n + 64 ≤ k)
    → word ≡ packed (take 64 (drop n s)) → word ≡ packed (take 64 (drop n (slice_set s k t)))
word_kept n k s t word (inl lt) e = e ∙ ap (λ l. packed (take 64 l)) (sym (drop-set-lt n s k t lt))
word_kept n k s t word (inr le) e =
    let m = k - n in
    let at : n + m ≡ k = omega (arith, le) in
    e ∙ ap packed (sym (take-set-le 64 (drop n s) m t (omega (arith, le)))
    ∙ ap (take 64) (sym (drop-set-add n s m t) ∙ ap (λ j. drop n (slice_set s j t)) at))

pub power_is : (count : ℕ) → count ≤ 32 → (1 * 2 ^ (2 * count)) % 2 ^ 128 ≡ 4 ^ count
power_is count le = one_shl (2 * count) 128 (omega arith) ∙ two_four count

packed_append : (a : ℕ) (s t : List Sign) → packed_after a (s ++ t) ≡ packed_after (packed_after a s) t
packed_append a [] t = refl
packed_append a (x ∷ s) t = packed_append (a * 4 + sign_place x) s t

pub halves : (s : List Sign) → packed (take 32 s) * 4 ^ length (drop 32 s) + packed (drop 32 s) ≡ packed s
halves s =
    let b = packed (take 32 s) in
    let t = drop 32 s in
    add_comm (b * 4 ^ length t) (packed t)
    ∙ sym (packed_more 0 b t)
    ∙ ap (λ n. packed_after n t) (zero-add b)
    ∙ sym (packed_append 0 (take 32 s) t)
    ∙ ap packed (take-append-drop 32 s)

pub halves_fit : (s : List Sign) → 32 ≤ length s → length s ≤ 64 → packed (take 32 s) * 4 ^ length (drop 32 s) + packed (drop 32 s) < 2 ^ 128
halves_fit s low high =
    let p = packed (take 32 s) in
    let m = length (drop 32 s) in
    let long : length (take 32 s) ≡ 32 = length-take-le 32 s low in
    let left : p < 4 ^ 32 = (let b = below 0 (take 32 s) in let e = ap (λ n. 4 ^ n) long in omega (arith, b, e)) in
    let right = below 0 (drop 32 s) in
    let step : (p + 1) * 4 ^ m ≤ 4 ^ 32 * 4 ^ m = mul-le-mul_right (4 ^ m) (omega (arith, left)) in
    let sum : 4 ^ (32 + m) ≡ 4 ^ 32 * 4 ^ m = pow-add 4 32 m in
    let top : 4 ^ (32 + m) ≤ 4 ^ 64 = pow-le-pow_right {n = 4} (omega arith) {i = 32 + m} {j = 64} (let l = length-drop 32 s in omega (arith, l, high)) in
    omega (arith, right, step, sum, top)

-- ---- the zeros as digits

digit : Sign → ℕ
digit Neg = 0
digit Zero = 1
digit Pos = 0

zeros_after : ℕ → List Sign → ℕ
zeros_after b [] = b
zeros_after b (x ∷ s) = zeros_after (b * 4 + digit x) s

ones : ℕ → ℕ
ones zero = 0
ones (suc k) = ones k * 4 + 1

filled_up : (a b : ℕ) (s : List Sign) → packed_after (a + b) (filled Pos s) ≡ packed_after a s + zeros_after b s
unfolding zeros_after digit
filled_up a b [] = refl
filled_up a b (x ∷ s) =
    ap (λ n. packed_after n (filled Pos s)) (step x) ∙ filled_up (a * 4 + sign_place x) (b * 4 + digit x) s
  where
    step : (x : Sign) → (a + b) * 4 + sign_place (then_sign x Pos) ≡ (a * 4 + sign_place x) + (b * 4 + digit x)
    step Neg = omega arith
    step Zero = omega arith
    step Pos = omega arith

filled_down : (a b : ℕ) (s : List Sign) → packed_after a (filled Neg s) + zeros_after b s ≡ packed_after
    (a + b) s
unfolding zeros_after digit
filled_down a b [] = refl
filled_down a b (x ∷ s) =
    filled_down (a * 4 + sign_place (then_sign x Neg)) (b * 4 + digit x) s ∙ ap (λ n. packed_after n s) (step x)
  where
    step : (x : Sign) → (a * 4 + sign_place (then_sign x Neg)) + (b * 4 + digit x) ≡ (a + b) * 4 + sign_place x
    step Neg = omega arith
    step Zero = omega arith
    step Pos = omega arith

filled_same : (s : List Sign) → filled Zero s ≡ s
filled_same [] = refl
filled_same (Neg ∷ s) = ap (λ l. Neg ∷ l) (filled_same s)
filled_same (Zero ∷ s) = ap (λ l. Zero ∷ l) (filled_same s)
filled_same (Pos ∷ s) = ap (λ l. Pos ∷ l) (filled_same s)

-- ---- they are the odd digits

and_digit : (n m : ℕ) (x : Sign) → bit_and (n * 4 + sign_place x) (m * 4 + 1) ≡ bit_and n m * 4 + digit x
unfolding digit
and_digit n m x =
    let v = bit_and (n * 4 + sign_place x) (m * 4 + 1) in
    let high : v / 4 ≡ bit_and n m =
    and_shr (n * 4 + sign_place x) (m * 4 + 1) 2 ∙ (λ i. bit_and (quotient x i) (above i)) in
    let low : v % 4 ≡ digit x =
    and_mod (n * 4 + sign_place x) (m * 4 + 1) 2 ∙ (λ i. bit_and (rest x i) (last i)) ∙ small x in
    omega (arith, high, low)
  where
    quotient : (x : Sign) → (n * 4 + sign_place x) / 4 ≡ n
    quotient Neg = omega arith
    quotient Zero = omega arith
    quotient Pos = omega arith

    above : (m * 4 + 1) / 4 ≡ m
    above = omega arith

    rest : (x : Sign) → (n * 4 + sign_place x) % 4 ≡ sign_place x
    rest Neg = omega arith
    rest Zero = omega arith
    rest Pos = omega arith

    last : (m * 4 + 1) % 4 ≡ 1
    last = omega arith

    small : (x : Sign) → bit_and (sign_place x) 1 ≡ digit x
    small Neg = refl
    small Zero = refl
    small Pos = refl

and_ones : (a k : ℕ) (s : List Sign)
    → bit_and (packed_after a s) (ones (k + length s)) ≡ zeros_after (bit_and a (ones k)) s
unfolding zeros_after ones
and_ones a k [] = ap (λ n. bit_and a (ones n)) (let e : k + 0 ≡ k = omega arith in e)
and_ones a k (x ∷ s) =
    ap (λ n. bit_and (packed_after (a * 4 + sign_place x) s) (ones n))
    (let e : k + suc (length s) ≡ suc k + length s = omega arith in e)
    ∙ and_ones (a * 4 + sign_place x) (suc k) s ∙ ap (λ n. zeros_after n s) (and_digit a (ones k) x)

-- a one in each digit of a word
abbrev pub ALL : ℕ
ALL = 113427455640312821154458202477256070485

all_ones : ones 64 ≡ ALL
unfolding ones
all_ones = refl

zeros_are : (s : List Sign) → length s ≤ 64 → bit_and (packed s) ALL ≡ zeros_after 0 s
zeros_are s le =
    ap (bit_and (packed s)) (sym all_ones)
    ∙ ap (λ n. bit_and (packed s) (ones n)) (let e : 64 ≡ (64 - length s) + length s = omega (arith, le) in e)
    ∙ and_ones 0 (64 - length s) s

pub word_neg : (s : List Sign) (word : ℕ) → packed s ≡ word → length s ≤ 64
    → (word + (2 ^ 128 - bit_and word ALL)) % 2 ^ 128 ≡ packed (filled Neg s)
word_neg s word e le =
    let z = ap (λ n. bit_and n ALL) (sym e) ∙ zeros_are s le in
    let h = filled_down 0 0 s in
    wrapped_difference word (bit_and word ALL) (packed (filled Neg s)) (omega (arith, z, h, e))
    (subst (λ n. n < 2 ^ 128) e (packed_fits s le))

pub word_zero : (s : List Sign) (word : ℕ) → packed s ≡ word → word ≡ packed (filled Zero s)
word_zero s word e = sym e ∙ ap packed (sym (filled_same s))

pub word_pos : (s : List Sign) (word : ℕ) → packed s ≡ word → length s ≤ 64
    → (word + bit_and word ALL) % 2 ^ 128 ≡ packed (filled Pos s)
word_pos s word e le =
    let z = ap (λ n. bit_and n ALL) (sym e) ∙ zeros_are s le in
    let h = filled_up 0 0 s in
    wrapped_sum word (bit_and word ALL) (packed (filled Pos s)) (omega (arith, z, h, e))
    (packed_fits (filled Pos s) (omega (arith, length-map s (λ x. then_sign x Pos), le)))

-- ---- four words

-- the word of the filled signs from n on, where the new word is the filled one
pub filled_word_at : (n : ℕ) (t : Sign) (s : List Sign) (word new : ℕ) → word ≡ packed (take 64 (drop n s))
    → ((l : List Sign) → packed l ≡ word → length l ≤ 64 → new ≡ packed (filled t l))
    → new ≡ packed (take 64 (drop n (filled t s)))
filled_word_at n t s word new e given =
    given (take 64 (drop n s)) (sym e) (length_taken (drop n s))
    ∙ ap packed (sym (take-map (λ x. then_sign x t) 64 (drop n s)) ∙ ap (take 64) (sym (drop-map (λ x. then_sign x t) n s)))
