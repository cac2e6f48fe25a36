-- A loop that asks of each element whether it has a property, and stops at the first that has it not.
use Rattle.std.proofs.Common.{◌≡◌, ◌∙◌, ◌↔◌, ◌+◌, ◌<◌, ◌≤◌, ℕ, All, Bool, IsTrue, List, arith, false, get_or, length, refl, subst, sym, true}
use Rattle.std.proofs.lemmas.Bool.{false≢true}
use Rattle.std.proofs.lemmas.List.{get_or_default}
use borrow.Author.Count.{below_more}

-- one more has it
pub each_more : {X : Type 0} (P : X → Type 0) (xs : List X) (i : ℕ) (e : X) → i < length xs → ((k : ℕ) (d : X) → k < i → P (get_or xs k d))
    → P (get_or xs i e) → (k : ℕ) (d : X) → k < i + 1 → P (get_or xs k d)
each_more P xs i e lt all here k d l = below_more (λ n. P (get_or xs n d)) i (λ m l. all m d l) (subst P (get_or_default xs i e d lt) here) k l

-- all have it
pub each_has : {X : Type 0} (P : X → Type 0) (xs : List X) (i : ℕ) → length xs ≤ i → ((k : ℕ) (d : X) → k < i → P (get_or xs k d))
    → IsTrue true ↔ All P xs
each_has P xs i end all = (λ t k d lt. all k d (omega (arith, lt, end)), λ h. refl)

-- one has it not
pub one_lacks : {X : Type 0} (P : X → Type 0) (xs : List X) (i : ℕ) (d : X) (r : Bool) → i < length xs → (P (get_or xs i d) → IsTrue r) → r ≡ false
    → IsTrue false ↔ All P xs
one_lacks P xs i d r lt tells not_so = (λ t. absurd (false≢true t), λ all. sym not_so ∙ tells (all i d lt))
