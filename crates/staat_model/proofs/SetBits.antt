-- What the operations on words do to the sets that they stand for.
use Rattle.std.proofs.Math.Nat.{mod-eq_of_lt, mod-one, pow-le-pow_right}
use Rattle.std.proofs.Common.{one-mul, ◌≡◌, ℕ, zero, suc, ◌+◌, ◌<◌, ◌≤◌, ◌-◌, ◌*◌, ◌/◌, ◌%◌, ◌^◌, max, min, Bool, true, arith, ap, sym, subst, inl, inr, ◌∙◌}
use Rattle.std.specs.Prelude.{bit_and, bit_or, if◌then◌else◌, nat_eq, nat_lt, ◌==◌, ◌&&◌, ◌||◌, ◌↔◌, false, not, refl}
use Rattle.std.proofs.lemmas.Bool.{ltb-true}
use Rattle.std.specs.Int.{bit_at, w32}
use Rattle.std.proofs.lemmas.Bool.Decides.{nat_tests}
use Rattle.std.proofs.lemmas.Nat.{and_mask, pow_below, pow_pos, mod-pow-add, ones_cat}
use Rattle.std.proofs.lemmas.Nat.Bits.{bit_at-lt, bit_at_or, bit_at_and, bit_at_not, bit_at-pow_same, bit_at-pow_other, bit_at_ones, bit_at_ones_above}
use Rattle.std.specs.Ordering.{nat_cmp}
use Rattle.std.specs.Cmp.{nat_cmp_total, unsigned_tied}
use Rattle.std.specs.FinSet as set
use Rattle.std.specs.Int.Count.{ones}
use Rattle.staat_model.specs.Bits.{members_below, set_of_word}
use Rattle.staat_model.specs.SetFacts.{contains-members_below, contains-set_of_word}
use Rattle.staat_model.specs.Sets.{Has, below, single}
use Rattle.staat_vec.proofs.Naturals.{lt_or_le, same_or}
use Rattle.staat_model.proofs.SetMembers.{bit_has, has-single, has_bit}
use Rattle.staat_model.proofs.SetWords.{same_members}

-- bits that are made of two words' bits as the members of a set are of the members of their sets
module _ (on : ℕ → ℕ → ℕ) (join : Bool → Bool → Bool) (law : (a b : ℕ) → a < 2 → b < 2 → (on a b == 1) ≡ join (a == 1) (b == 1)) (none : join false false ≡ false) where
  of_words : (r a b : ℕ) (s : set.FinSet nat_cmp) → ((q : ℕ) → q < 32 → bit_at r q ≡ on (bit_at a q) (bit_at b q))
      → ((q : ℕ) → set.contains s q ≡ join (set.contains (set_of_word a) q) (set.contains (set_of_word b) q)) → set_of_word r ≡ s
  of_words r a b s bits members =
      set.same_set nat_cmp_total set.nat_cmp-IsAntisymmetric _ _
      (λ q. contains-set_of_word r q ∙ at q (nat_lt q 32) refl ∙ sym (members q ∙ (λ i. join (contains-set_of_word a q i) (contains-set_of_word b q i))))
    where
      at : (q : ℕ) (l : Bool) → nat_lt q 32 ≡ l → (l && (bit_at r q == 1)) ≡ join (l && (bit_at a q == 1)) (l && (bit_at b q == 1))
      at q true e = ap (λ t. t == 1) (bits q (ltb-true q 32 e)) ∙ law (bit_at a q) (bit_at b q) (bit_at-lt a q) (bit_at-lt b q)
      at q false e = sym none

pub set_of_word-or : (a b : ℕ) → set_of_word (bit_or a b) ≡ set.union (set_of_word a) (set_of_word b)
set_of_word-or a b =
    of_words max (λ x y. x || y) (λ x y small less. grind (arith, nat_tests)) refl (bit_or a b) a b _ (λ q lt. bit_at_or a b q) (set.contains-union nat_cmp_total _ _)

pub set_of_word-and : (a b : ℕ) → set_of_word (bit_and a b) ≡ set.intersection (set_of_word a) (set_of_word b)
set_of_word-and a b =
    of_words min (λ x y. x && y) (λ x y small less. grind (arith, nat_tests)) refl (bit_and a b) a b _ (λ q lt. bit_at_and a b q) (set.contains-intersection nat_cmp_total _ _)

pub set_of_word-without : (a b : ℕ) → b < 2 ^ 32 → set_of_word (bit_and a (4294967295 - b)) ≡ set.difference (set_of_word a) (set_of_word b)
set_of_word-without a b small =
    of_words (λ x y. min x (1 - y)) (λ x y. x && not y) (λ x y small less. grind (arith, nat_tests)) refl (bit_and a (4294967295 - b)) a b _
    (λ q lt. bit_at_and a (4294967295 - b) q ∙ ap (min (bit_at a q)) (bit_at_not w32 b q small lt)) (set.contains-difference nat_cmp_total _ _)

pub contains-word : (bits p : ℕ) → p < 32 → nat_eq (bit_and (bits / 2 ^ p) 1) 1 ≡ set.contains (set_of_word bits) p
contains-word bits p lt =
    let low : bit_and (bits / 2 ^ p) 1 ≡ bit_at bits p = and_mask (bits / 2 ^ p) 1 in
    let inside : nat_lt p 32 ≡ true = grind (arith, nat_tests) in
    ap (λ n. nat_eq n 1) low ∙ sym (contains-set_of_word bits p ∙ ap (λ t. t && (bit_at bits p == 1)) inside)

-- a power of two has one bit
pub set_of_word-pow : (p : ℕ) → p < 32 → set_of_word (1 * 2 ^ p % 4294967296) ≡ single p
set_of_word-pow p lt =
    let below : 2 ^ p < 4294967296 = pow_below p 32 lt in
    let is : 1 * 2 ^ p % 4294967296 ≡ 2 ^ p = ap (λ n. n % 4294967296) (one-mul (2 ^ p)) ∙ mod-eq_of_lt below in
    ap set_of_word is ∙ same_members (set_of_word (2 ^ p)) (single p)
    (λ q h. (has-single p q).1 (elim (same_or q p) [ inl e ↦ e | inr ne ↦ absurd (let z = bit_at-pow_other p q ne in let one = (has_bit (2 ^ p) q h).1 in omega (arith, z, one)) ]))
    (λ q h. subst (Has (set_of_word (2 ^ p))) (sym ((has-single p q).0 h)) (bit_has (2 ^ p) p below (bit_at-pow_same p)))

-- a number is below suc n where it is n or below n
next_below : (q n : ℕ) → nat_lt q (suc n) ≡ (nat_eq q n || nat_lt q n)
next_below q n = grind (arith, nat_tests)

pub contains-below : (n q : ℕ) → set.contains (below n) q ≡ nat_lt q n
contains-below zero q = set.contains-empty nat_cmp q ∙ grind (arith, nat_tests)
contains-below (suc n) q =
    set.contains-insert nat_cmp_total (below n) n q
    ∙ (λ i. unsigned_tied q n i || contains-below n q i)
    ∙ sym (next_below q n)

pub has-below : (n q : ℕ) → Has (below n) q ↔ (q < n)
has-below n q = (λ h. let t : nat_lt q n ≡ true = sym (contains-below n q) ∙ h in grind (arith, nat_tests), λ lt. contains-below n q ∙ grind (arith, nat_tests))

-- the lowest n bits are those of the numbers below n
pub set_of_word-ones : (n : ℕ) → n ≤ 32 → set_of_word (2 ^ n - 1) ≡ below n
set_of_word-ones n le =
    let top : 2 ^ n ≤ 2 ^ 32 = pow-le-pow_right (omega arith) le in
    let small : 2 ^ n - 1 < 2 ^ 32 = omega (arith, top) in
    same_members (set_of_word (2 ^ n - 1)) (below n)
    (λ q h. (has-below n q).1 (elim (lt_or_le q n) [ inl lt ↦ lt | inr above ↦ absurd (let z = bit_at_ones_above n q above in let one = (has_bit (2 ^ n - 1) q h).1 in omega (arith, z, one)) ]))
    (λ q h. bit_has (2 ^ n - 1) q small (bit_at_ones n q ((has-below n q).0 h)))

-- as many members as bits
len_step : (n bits m : ℕ) (s : set.FinSet nat_cmp) → set.contains s n ≡ false → set.len s ≡ m → (b : Bool) → set.len (if b then set.insert s n else s) ≡ (if b then m + 1 else m)
len_step n bits m s fresh is true = set.len-insert nat_cmp_total s n ∙ (λ i. if fresh i then set.len s else is i + 1)
len_step n bits m s fresh is false = is

one_of_none : ones 0 ≡ 0
unfolding ones
one_of_none = refl

one_of_one : ones 1 ≡ 1
unfolding ones
one_of_one = refl

top_ones : (t n r : ℕ) → t < 2 → r < 2 ^ n → ones (t * 2 ^ n + r) ≡ (if t == 1 then ones r + 1 else ones r)
top_ones zero n r lt small = ones_cat n 0 r small ∙ ap (λ m. m + ones r) one_of_none ∙ omega arith
top_ones (suc zero) n r lt small = ones_cat n 1 r small ∙ ap (λ m. m + ones r) one_of_one ∙ omega arith
top_ones (suc (suc t)) n r lt small = absurd (omega arith)

pub len-members_below : (n bits : ℕ) → set.len (members_below n bits) ≡ ones (bits % 2 ^ n)
len-members_below zero bits = set.len-empty nat_cmp ∙ sym (ap ones (mod-one bits) ∙ one_of_none)
len-members_below (suc n) bits =
    let fresh : set.contains (members_below n bits) n ≡ false = contains-members_below n bits n ∙ ap (λ t. t && (bit_at bits n == 1)) (let e : nat_lt n n ≡ false = grind (arith, nat_tests) in e) in
    let split : bits % 2 ^ (1 + n) ≡ (bits / 2 ^ n % 2 ^ 1) * 2 ^ n + bits % 2 ^ n = mod-pow-add bits 1 n in
    let next : suc n ≡ 1 + n = omega arith in
    len_step n bits (ones (bits % 2 ^ n)) (members_below n bits) fresh (len-members_below n bits) (bit_at bits n == 1)
    ∙ sym (ap (λ k. ones (bits % 2 ^ k)) next ∙ ap ones split ∙ top_ones (bit_at bits n) n (bits % 2 ^ n) (bit_at-lt bits n) (let p : 0 < 2 ^ n = pow_pos n in omega arith))

pub len-set_of_word : (bits : ℕ) → bits < 2 ^ 32 → set.len (set_of_word bits) ≡ ones bits
unfolding set_of_word
len-set_of_word bits small = len-members_below 32 bits ∙ ap ones (mod-eq_of_lt small)

-- what the code computes for the lowest n bits
pub first_bits : (n : ℕ) → n ≤ 32 → 1 * 2 ^ n % 18446744073709551616 - 1 ≡ 2 ^ n - 1
first_bits n le =
    let small : 2 ^ n < 18446744073709551616 = pow_below n 64 (omega arith) in
    ap (λ m. m % 18446744073709551616 - 1) (one-mul (2 ^ n)) ∙ ap (λ m. m - 1) (mod-eq_of_lt small)
