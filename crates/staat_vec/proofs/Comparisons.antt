-- Comparisons: numbers by `nat_cmp`, what comes of two comparisons one after the other, and ascending lists of numbers.
use Rattle.std.specs.declared.cmp.Ordering.TheVariants.{Equal, Less}
use Rattle.std.proofs.Common.{arith, ℕ, ◌≡◌, ◌<◌, sym, refl, true, ap, ◌∙◌, Contains, List, ◌∷◌, [], ⊎_elim, ◌++◌, ◌+◌, ◌≤◌}
use Rattle.std.specs.Ordering.{nat_cmp, is_eq, ordering_then}
use Rattle.std.proofs.lemmas.Bool.Decides.{nat_tests}
use Rattle.std.proofs.lemmas.Cmp.{ranked}
use Rattle.std.specs.declared.cmp.Ordering.{Ordering}
use Rattle.std.proofs.lemmas.List.Elements.{All-contains, All-from_recursion}
use Rattle.std.specs.List.Sorted.{IsStrictlySortedBy}
use Rattle.std.proofs.lemmas.Map.Keys.{sorted_head, sorted_tail}
use Rattle.std.specs.List.{AllByRecursion}
use Rattle.staat_vec.proofs.Unique.{Contains-cases, Contains-nothing, Contains-front}
use Rattle.staat_vec.proofs.ListLaws.{Contains-there, push_each}

-- ---- two numbers

pub nat_cmp-same : (n : ℕ) → nat_cmp n n ≡ Equal
nat_cmp-same n = grind (arith, nat_tests)

pub nat_cmp-less : (m n : ℕ) → m < n → nat_cmp m n ≡ Less
nat_cmp-less m n h = grind (arith, nat_tests)

pub less_number : (m n : ℕ) → nat_cmp m n ≡ Less → m < n
less_number m n e = ranked m n Less (sym e)

-- ---- one comparison after another

pub from_is_eq : (o : Ordering) → is_eq o ≡ true → o ≡ Equal
from_is_eq Equal e = refl
from_is_eq o e = cc

pub then_both_equal : (r s : Ordering) → ordering_then r s ≡ Equal → (r ≡ Equal) × (s ≡ Equal)
then_both_equal Equal s e = (refl, e)
then_both_equal r s e = absurd cc

pub then_same : (m n : ℕ) (o : Ordering) → m ≡ n → ordering_then (nat_cmp m n) o ≡ o
then_same m n o e = ap (λ c. ordering_then c o) (ap (nat_cmp m) (sym e) ∙ nat_cmp-same m)

pub then_less : (m n : ℕ) (o : Ordering) → m < n → ordering_then (nat_cmp m n) o ≡ Less
then_less m n o lt = ap (λ c. ordering_then c o) (nat_cmp-less m n lt)

-- ---- ascending numbers

pub above_first : (x : ℕ) (xs : List ℕ) → AllByRecursion (λ z. nat_cmp x z ≡ Less) xs → (q : ℕ) → Contains xs q → x < q
above_first x xs h q c = less_number x q (All-contains (λ z. nat_cmp x z ≡ Less) xs q (All-from_recursion (λ z. nat_cmp x z ≡ Less) xs h) c)

pub head_less : (k : ℕ) (ks : List ℕ) (j : ℕ) → IsStrictlySortedBy nat_cmp (k ∷ ks) → Contains ks j → k < j
head_less k ks j s = above_first k ks (sorted_head nat_cmp k ks s) j

pub tail_sorted : (k : ℕ) (ks : List ℕ) → IsStrictlySortedBy nat_cmp (k ∷ ks) → IsStrictlySortedBy nat_cmp ks
tail_sorted = sorted_tail nat_cmp

pub sorted_push_less : (xs : List ℕ) (x : ℕ) → IsStrictlySortedBy nat_cmp xs → ((y : ℕ) → Contains xs y → nat_cmp y x ≡ Less)
    → IsStrictlySortedBy nat_cmp (xs ++ x ∷ [])
unfolding IsStrictlySortedBy
sorted_push_less [] x h f = (tt, tt)
sorted_push_less (y ∷ ys) x h f =
    (push_each (λ z. nat_cmp y z ≡ Less) ys x h.0 (f y (Contains-front y ys)), sorted_push_less ys x h.1 (λ z z_in. f z (Contains-there y z ys z_in)))

pub sorted_push : (xs : List ℕ) (x : ℕ) → IsStrictlySortedBy nat_cmp xs → ((y : ℕ) → Contains xs y → y < x) → IsStrictlySortedBy nat_cmp (xs ++ x ∷ [])
sorted_push xs x h f = sorted_push_less xs x h (λ y c. nat_cmp-less y x (f y c))

-- an ascending list of numbers from n on that has n begins with it
pub sorted_begins : (n : ℕ) (ks : List ℕ) → IsStrictlySortedBy nat_cmp ks → ((k : ℕ) → Contains ks k → n ≤ k) → Contains ks n → (rest : List ℕ) × (ks ≡ n ∷ rest) × IsStrictlySortedBy nat_cmp rest × ((k : ℕ) → Contains rest k → n + 1 ≤ k) × ((k : ℕ) → Contains ks k → n < k → Contains rest k)
sorted_begins n [] s low c = absurd (Contains-nothing n c)
sorted_begins n (k ∷ ks) s low c =
    let e : n ≡ k = ⊎_elim {C = n ≡ k} (λ e. e) (λ later. absurd (let a = head_less k ks n s later in let b = low k (Contains-front k ks) in omega (arith, a, b))) (Contains-cases k ks n c) in
    (ks, ap (λ m. m ∷ ks) (sym e), tail_sorted k ks s, (λ m cm. let a = head_less k ks m s cm in omega (arith, a, e)), (λ m cm lt. ⊎_elim {C = Contains ks m} (λ q. absurd (omega (arith, q, e, lt))) (λ h. h) (Contains-cases k ks m cm)))
