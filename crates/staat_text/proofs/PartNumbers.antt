-- The numbers of the parts in a set are the one ascending list of its members.
use Rattle.std.proofs.Common.{◌≡◌, ◌∙◌, ◌⊎◌, ◌↔◌, inl, inr, ⊎_elim, ℕ, zero, suc, ◌+◌, ◌<◌, ◌≤◌, Bool, true, false, List, [], ◌∷◌, ◌++◌, All, Contains, arith, refl, sym, ap, subst, true≢false, cond}
use Rattle.std.specs.Prelude.{if◌then◌else◌}
use Rattle.std.specs.Cmp.{nat_cmp_is, nat_cmp_total}
use Rattle.std.specs.FinMap.{nat_cmp-IsAntisymmetric}
use Rattle.std.specs.FinSet as set
use Rattle.std.specs.List.{AllByRecursion}
use Rattle.std.specs.List.Sorted.{IsStrictlySortedBy}
use Rattle.std.specs.Ordering.{nat_cmp}
use Rattle.std.specs.declared.cmp.Ordering.TheVariants.{Less}
use Rattle.std.proofs.lemmas.List.Elements.{All-contains}
use Rattle.staat_vec.proofs.Unique.{Contains-cases, Contains-nothing, same_list, Contains-front}
use Rattle.staat_model.specs.declared.set.PartSet.{PartSet}
use Rattle.staat_model.specs.Lines.{members_from}
use Rattle.staat_model.specs.SetLists.{set_of}
use Rattle.staat_model.specs.Sets.{Has}
use Rattle.staat_model.proofs.SetListings.{has-set_of}
use Rattle.staat_text.specs.PlanTexts.{part_numbers}
use Rattle.staat_vec.proofs.ListLaws.{Contains-there}

-- ---- the members among the n numbers from s on

above_all : (n s t : ℕ) (w : PartSet) → t < s → AllByRecursion (λ y. nat_cmp t y ≡ Less) (members_from s n w)
above_all zero s t w lt = tt
above_all (suc n) s t w lt = go (set.contains w s) (above_all n (suc s) t w (omega (arith, lt)))
  where
    go : (b : Bool) → AllByRecursion (λ y. nat_cmp t y ≡ Less) (members_from (suc s) n w) → AllByRecursion (λ y. nat_cmp t y ≡ Less) (if b then s ∷ members_from (suc s) n w else members_from (suc s) n w)
    go true h = (sym (nat_cmp_is t s Less lt), h)
    go false h = h

ascending : (n s : ℕ) (w : PartSet) → IsStrictlySortedBy nat_cmp (members_from s n w)
unfolding IsStrictlySortedBy
ascending zero s w = tt
ascending (suc n) s w = go (set.contains w s) (ascending n (suc s) w)
  where
    go : (b : Bool) → IsStrictlySortedBy nat_cmp (members_from (suc s) n w) → IsStrictlySortedBy nat_cmp (if b then s ∷ members_from (suc s) n w else members_from (suc s) n w)
    go true h = (above_all n (suc s) s w (omega arith), h)
    go false h = h

each_has : (n s : ℕ) (w : PartSet) (p : ℕ) → Contains (members_from s n w) p → Has w p
each_has zero s w p c = absurd (Contains-nothing p c)
each_has (suc n) s w p c = go (set.contains w s) refl (each_has n (suc s) w p) c
  where
    go : (b : Bool) → set.contains w s ≡ b → (Contains (members_from (suc s) n w) p → Has w p) → Contains (if b then s ∷ members_from (suc s) n w else members_from (suc s) n w) p → Has w p
    go true has later c = ⊎_elim {C = Has w p} (λ e. subst (Has w) (sym e) has) later (Contains-cases s (members_from (suc s) n w) p c)
    go false none later c = later c

all_in : (n s : ℕ) (w : PartSet) (p : ℕ) → s ≤ p → p < s + n → Has w p → Contains (members_from s n w) p
all_in zero s w p low high h = absurd (omega (arith, low, high))
all_in (suc n) s w p low high h = go (set.contains w s) refl (λ le. all_in n (suc s) w p le (omega (arith, high)) h) (first_or low)
  where
    first_or : s ≤ p → (p ≡ s) ⊎ (suc s ≤ p)
    first_or le = grind arith

    go : (b : Bool) → set.contains w s ≡ b → (suc s ≤ p → Contains (members_from (suc s) n w) p) → (p ≡ s) ⊎ (suc s ≤ p) → Contains (if b then s ∷ members_from (suc s) n w else members_from (suc s) n w) p
    go true has later (inl e) = subst (Contains (s ∷ members_from (suc s) n w)) (sym e) (Contains-front s (members_from (suc s) n w))
    go true has later (inr le) = Contains-there s p (members_from (suc s) n w) (later le)
    go false none later (inl e) = absurd (true≢false (sym (subst (Has w) e h) ∙ none))
    go false none later (inr le) = later le

numbers_from : (n : ℕ) (w : PartSet) (xs : List ℕ) → IsStrictlySortedBy nat_cmp xs → ((p : ℕ) → Contains xs p ↔ Has w p) → ((p : ℕ) → Has w p → p < n) → xs ≡ members_from 0 n w
numbers_from n w xs sorted are small = same_list nat_cmp nat_cmp_total nat_cmp-IsAntisymmetric xs (members_from 0 n w) sorted (ascending n 0 w)
    (λ p c. let h = (are p).0 c in all_in n 0 w p (omega arith) (omega (arith, small p h)) h)
    (λ p c. (are p).1 (each_has n 0 w p c))

-- ---- all members

pub numbers_are : (w : PartSet) (xs : List ℕ) → IsStrictlySortedBy nat_cmp xs → ((p : ℕ) → Contains xs p ↔ Has w p) → ((p : ℕ) → Has w p → p < 1024) → xs ≡ part_numbers w
unfolding part_numbers
numbers_are w xs sorted are small = numbers_from 1024 w xs sorted are small

pub numbers_of_list : (xs : List ℕ) → IsStrictlySortedBy nat_cmp xs → All (λ p. p < 1024) xs → xs ≡ part_numbers (set_of xs)
numbers_of_list xs sorted small = numbers_are (set_of xs) xs sorted (λ p. ((has-set_of xs p).1, (has-set_of xs p).0)) (λ p h. All-contains (λ q. q < 1024) xs p small ((has-set_of xs p).0 h))

-- those of a set in a word of bits
pub numbers_of_word : (w : PartSet) (xs : List ℕ) → ((p : ℕ) → Has w p → p < 32) → xs ≡ members_from 0 32 w → xs ≡ part_numbers w
numbers_of_word w xs small is = is ∙ numbers_are w (members_from 0 32 w) (ascending 32 0 w)
    (λ p. (each_has 32 0 w p, λ h. all_in 32 0 w p (omega arith) (small p h) h)) (λ p h. omega (arith, small p h))

-- ---- one number more of a word

members_push : (n s : ℕ) (w : PartSet) → members_from s (suc n) w ≡ members_from s n w ++ cond (set.contains w (s + n)) ((s + n) ∷ []) []
members_push zero s w = let same : s ≡ s + 0 = omega arith in ap (λ k. cond (set.contains w k) (k ∷ []) []) same
members_push (suc n) s w =
    let same : suc s + n ≡ s + suc n = omega arith in
    go (set.contains w s) _ _ _ (members_push n (suc s) w ∙ ap (λ k. members_from (suc s) n w ++ cond (set.contains w k) (k ∷ []) []) same)
  where
    go : (b : Bool) (xs ys zs : List ℕ) → xs ≡ ys ++ zs → cond b (s ∷ xs) xs ≡ cond b (s ∷ ys) ys ++ zs
    go true xs ys zs e = ap (λ l. s ∷ l) e
    go false xs ys zs e = e

-- the members before p + 1
pub number_next : (w : PartSet) (p : ℕ) (t : Bool) → set.contains w p ≡ t → members_from 0 (p + 1) w ≡ members_from 0 p w ++ cond t (p ∷ []) []
number_next w p t e =
    let next : p + 1 ≡ suc p = omega arith in
    let at : 0 + p ≡ p = omega arith in
    ap (λ n. members_from 0 n w) next ∙ members_push p 0 w ∙ ap (λ k. members_from 0 p w ++ cond (set.contains w k) (k ∷ []) []) at
    ∙ ap (λ u. members_from 0 p w ++ cond u (p ∷ []) []) e
