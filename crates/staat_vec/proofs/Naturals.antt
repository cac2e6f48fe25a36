-- Natural numbers: which of two comes first, what tests tell of them, and their parts by 64.
use Rattle.std.proofs.Common.{arith, ℕ, ◌<◌, ◌≤◌, ◌⊎◌, ◌+◌, ◌≡◌, ◌≢◌, suc, ⊎_elim, true, eq-eqb, false, not, eqb, ◌-◌, ◌*◌, ◌%◌, ◌/◌}
use Rattle.std.proofs.lemmas.Bool.{cases_lt}
use Rattle.std.specs.Prelude.{◌==◌, nat_lt, nat_le, min}
use Rattle.std.proofs.lemmas.Bool.Decides.{nat_tests}
use Rattle.staat_vec.proofs.Truth.{true_not_clash}

-- ---- which of two comes first

pub le_or_lt : (a b : ℕ) → (a ≤ b) ⊎ (b < a)
le_or_lt a b = grind arith

pub lt_or_le : (a b : ℕ) → (a < b) ⊎ (b ≤ a)
lt_or_le a b = grind arith

pub le_or_past : (k m : ℕ) → (k ≤ m) ⊎ (m + 1 ≤ k)
le_or_past k m = grind arith

pub trichotomy : (a b : ℕ) → (a < b) ⊎ ((a ≡ b) ⊎ (b < a))
trichotomy a b = grind arith

pub same_or : (p q : ℕ) → (p ≡ q) ⊎ (p ≢ q)
same_or p q = grind arith

pub same_or_apart : (a b : ℕ) → (a ≡ b) ⊎ ((a < b) ⊎ (b < a))
same_or_apart a b = grind arith

pub apart_cases : (a b : ℕ) → a ≢ b → (a < b) ⊎ (b < a)
apart_cases a b ne = grind arith

pub lt_suc_cases : (j i : ℕ) → j < suc i → (j < i) ⊎ (j ≡ i)
lt_suc_cases j i h = grind arith

pub lt_one_more_cases : (m k : ℕ) → m < k + 1 → (m < k) ⊎ (m ≡ k)
lt_one_more_cases m k lt = grind arith

pub lt_from_le : (a b : ℕ) → a ≢ b → b ≤ a → b < a
lt_from_le a b ne le = omega arith

pub le_from_not_lt : (p q : ℕ) → (q < p → ⊥) → p ≤ q
le_from_not_lt p q out = grind arith

-- two places of which neither comes before the other are one
pub same_from_neither : (i j : ℕ) → (i < j → ⊥) → (j < i → ⊥) → i ≡ j
same_from_neither i j h g = ⊎_elim (λ lt. absurd (h lt)) (λ le. ⊎_elim (λ lt. absurd (g lt)) (λ ge. omega (arith, le, ge)) (cases_lt j i)) (cases_lt i j)

-- ---- what tests tell

pub same_from_test : (a b : ℕ) → (a == b) ≡ true → a ≡ b
same_from_test a b e = grind arith

pub apart_from_test : (k p : ℕ) → not (k == p) ≡ true → k ≢ p
apart_from_test k p h e = true_not_clash (k == p) (eq-eqb k p e) h

pub eq_test_false : (a b : ℕ) → a ≢ b → (a == b) ≡ false
eq_test_false a b ne = grind arith

pub eqb_false : (x y : ℕ) → x ≢ y → eqb x y ≡ false
eqb_false x y h = grind (arith, nat_tests)

pub lt_test : (n m : ℕ) → n < m → nat_lt n m ≡ true
lt_test n m h = grind (arith, nat_tests)

pub lt_test_false : (a b : ℕ) → b ≤ a → nat_lt a b ≡ false
lt_test_false a b h = grind (arith, nat_tests)

pub le_test : (n m : ℕ) → n ≤ m → nat_le n m ≡ true
le_test n m h = grind (arith, nat_tests)

-- ---- successors, sums and least numbers

pub suc_same : (a b : ℕ) → suc a ≡ suc b → a ≡ b
suc_same a b e = omega (arith, e)

pub zero_not_suc : (k : ℕ) → 0 ≡ suc k → ⊥
zero_not_suc k e = cc

pub zero_not_one : (n : ℕ) → n ≡ 0 → n ≡ 1 → ⊥
zero_not_one n e f = omega arith

pub add_none : (n : ℕ) → n ≡ n + 0
add_none n = omega arith

pub add_three_back : (m : ℕ) → m + 3 - 3 ≡ m
add_three_back m = omega arith

pub min_same : (n : ℕ) → min n n ≡ n
min_same n = omega arith

pub min_at_start : (old sum top : ℕ) → sum ≡ 0 → min (old + sum) top ≤ old
min_at_start old sum top h = omega arith

-- ---- numbers by their parts of 64

pub same_parts_of_64 : (p q r s : ℕ) → q < 64 → s < 64 → 64 * p + q ≡ 64 * r + s → (p ≡ r) × (q ≡ s)
same_parts_of_64 p q r s h g e = (omega arith, omega arith)

pub parts_by_64 : (p q k : ℕ) → q < 64 → 64 * p + q ≡ k → (p ≡ k / 64) × (q ≡ k % 64)
parts_by_64 p q k lt e = (omega arith, omega arith)
