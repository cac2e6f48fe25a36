-- What the implementations of `PartSet` cite, which may cite nothing outside of specs: a word comes back from its set,
-- and sets with the same members are one.
use Rattle.std.specs.Prelude.{◌≡◌, ℕ, zero, suc, ◌+◌, ◌*◌, ◌%◌, ◌/◌, ◌^◌, ◌<◌}
use Rattle.std.specs.Prelude.{◌≤◌, Bool, true, false, ◌&&◌, ◌||◌, ◌==◌}
use Rattle.std.specs.Prelude.{nat_eq}
use Rattle.std.specs.Prelude.{nat_lt, if◌then◌else◌, refl}
use Rattle.std.proofs.Common.{arith, ap, sym, ◌∙◌, lit≤}
use Rattle.std.proofs.Math.Nat.{mod-one, mod-eq_of_lt}
use Rattle.std.proofs.lemmas.Bool.{false≢true}
use Rattle.std.proofs.lemmas.Bool.Decides.{nat_tests}
use Rattle.std.proofs.lemmas.Nat.{mod-pow-add}
use Rattle.std.proofs.lemmas.Nat.Bits.{bit_at-lt}
use Rattle.std.specs.Bool.{Decides}
use Rattle.std.specs.Int.{bit_at}
use Rattle.std.specs.Ordering.{nat_cmp}
use Rattle.std.specs.Cmp.{unsigned_tied, nat_cmp_total}
use Rattle.std.specs.FinSet as set
use Rattle.staat_model.specs.declared.set.PartSet.{PartSet}
use Rattle.staat_model.specs.Bits.{members_below, word_below, set_of_word, word_of_set}
use Rattle.staat_model.specs.Sets.{equal_sets}

-- ---- words

step : (b : Bool) (s : set.FinSet nat_cmp) (n k : ℕ)
    → set.contains (if b then set.insert s n else s) k ≡ ((b && nat_eq k n) || set.contains s k)
step true s n k = set.contains-insert nat_cmp_total s n k ∙ ap (λ t. t || set.contains s k) (unsigned_tied k n)
step false s n k = refl

pub contains-members_below : (n bits k : ℕ)
    → set.contains (members_below n bits) k ≡ (nat_lt k n && (bit_at bits k == 1))
contains-members_below zero bits k = set.contains-empty nat_cmp k ∙ grind (arith, nat_tests)
contains-members_below (suc n) bits k =
    step (bit_at bits n == 1) (members_below n bits) n k
    ∙ ap (λ t. ((bit_at bits n == 1) && nat_eq k n) || t) (contains-members_below n bits k)
    ∙ grind (arith, nat_tests)

-- the bit and the number below it
low_bits : (n bits : ℕ) → bits % 2 ^ suc n ≡ bits % 2 ^ n + (if bit_at bits n == 1 then 2 ^ n else 0)
low_bits n bits =
    let split : bits % 2 ^ (1 + n) ≡ (bits / 2 ^ n % 2 ^ 1) * 2 ^ n + bits % 2 ^ n = mod-pow-add bits 1 n in
    let small : bit_at bits n < 2 = bit_at-lt bits n in
    let next : suc n ≡ 1 + n = omega arith in
    ap (λ k. bits % 2 ^ k) next ∙ split ∙ by_bit (bit_at bits n) (2 ^ n) (bits % 2 ^ n) small
  where
    by_bit : (b p r : ℕ) → b < 2 → b * p + r ≡ r + (if b == 1 then p else 0)
    by_bit zero p r lt = grind arith
    by_bit (suc zero) p r lt = grind arith
    by_bit (suc (suc b)) p r lt = absurd (omega arith)

pub word_below-members_below : (n m bits : ℕ) → n ≤ m → word_below n (members_below m bits) ≡ bits % 2 ^ n
word_below-members_below zero m bits h = sym (mod-one bits)
word_below-members_below (suc n) m bits h =
    let below : nat_lt n m ≡ true = grind (arith, nat_tests) in
    let is : set.contains (members_below m bits) n ≡ (bit_at bits n == 1) =
    contains-members_below m bits n ∙ ap (λ t. t && (bit_at bits n == 1)) below in
    let rest : n ≤ m = omega arith in
    ap (λ t. t + (if set.contains (members_below m bits) n then 2 ^ n else 0))
    (word_below-members_below n m bits rest)
    ∙ ap (λ t. bits % 2 ^ n + (if t then 2 ^ n else 0)) is
    ∙ sym (low_bits n bits)

pub word_of_set-set_of_word : (bits : ℕ) → bits < 2 ^ 32 → word_of_set (set_of_word bits) ≡ bits
unfolding word_of_set set_of_word
word_of_set-set_of_word bits small = word_below-members_below 32 32 bits (lit≤ tt) ∙ mod-eq_of_lt small

pub contains-set_of_word : (bits k : ℕ) → set.contains (set_of_word bits) k
    ≡ (nat_lt k 32 && (bit_at bits k == 1))
unfolding set_of_word
contains-set_of_word bits k = contains-members_below 32 bits k

-- ---- equality

pub equal_sets-decides : (s t : PartSet) → Decides (equal_sets s t) (s ≡ t)
unfolding equal_sets
equal_sets-decides s t = (
  λ e. equal (both (set.is_subset s t) (set.is_subset t s) e),
  λ e. ap (λ r. set.is_subset s r && set.is_subset r s) (sym e) ∙ ap (λ b. b && b) (itself s),
)
  where
    both : (a b : Bool) → (a && b) ≡ true → (a ≡ true) × (b ≡ true)
    both true b h = (refl, h)
    both false b h = absurd (false≢true h)

    alike : (a b : Bool) → (a ≡ true → b ≡ true) → (b ≡ true → a ≡ true) → a ≡ b
    alike true b f g = sym (f refl)
    alike false true f g = g refl
    alike false false f g = refl

    equal : (set.is_subset s t ≡ true) × (set.is_subset t s ≡ true) → s ≡ t
    equal h = set.same_set nat_cmp_total set.nat_cmp-IsAntisymmetric s t
        (λ q. alike (set.contains s q) (set.contains t q)
        (set.is_subset-contains nat_cmp_total s t h.0 q) (set.is_subset-contains nat_cmp_total t s h.1 q))

    itself : (r : PartSet) → set.is_subset r r ≡ true
    itself r = set.contains-is_subset nat_cmp_total r r (λ q h. h)
