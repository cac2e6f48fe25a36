-- Places of lists, and ascending lists.
use Rattle.std.proofs.Common.{◌≡◌, ◌≢◌, ◌⊎◌, ℕ, zero, suc, ◌+◌, ◌<◌, ◌≤◌, List, [], ◌∷◌, ◌++◌, length, get_or, take, drop, set, ⊎_elim, refl, sym, ap, subst, ◌∙◌, arith, Contains}
use Rattle.std.specs.Prelude.{Some, slice_get}
use Rattle.std.specs.List.Sorted.{IsStrictlySortedBy}
use Rattle.std.specs.Ordering.{nat_cmp}
use Rattle.std.proofs.lemmas.List.{take_all, take_more}
use Rattle.std.proofs.lemmas.List.Elements.{Contains-push_cases}
use Rattle.std.proofs.lemmas.Map.Keys.{Less-from_sorted}
use Rattle.std.proofs.lemmas.Option.{slice_get-get_or}
use Rattle.staat_vec.proofs.Naturals.{trichotomy}
use Rattle.staat_vec.proofs.Comparisons.{less_number}
use Rattle.staat_vec.proofs.Unique.{from_place}

-- what comes before an element of an ascending list stands before it
pub before_place : (xs : List ℕ) (k m : ℕ) → IsStrictlySortedBy nat_cmp xs → k < length xs → Contains xs m → m < get_or xs k 0 → Contains (take k xs) m
before_place xs k m sorted k_lt (j, j_lt, e) lt = ⊎_elim {C = Contains (take k xs) m}
    (λ less. in_front xs j k m less j_lt e)
    (λ r. absurd (⊎_elim {C = ⊥}
    (λ same. let is : get_or xs k 0 ≡ m = ap (λ i. get_or xs i 0) (sym same) ∙ from_default xs j m 0 j_lt e in omega (arith, is, lt))
    (λ later. let f = less_number (get_or xs k 0) (get_or xs j 0) (Less-from_sorted nat_cmp xs k j 0 sorted later j_lt) in let is = from_default xs j m 0 j_lt e in omega (arith, is, lt, f)) r))
    (trichotomy j k)
  where
    from_default : (ys : List ℕ) (i n d : ℕ) → i < length ys → get_or ys i n ≡ n → get_or ys i d ≡ n
    from_default [] i n d h f = absurd (omega arith)
    from_default (y ∷ ys) zero n d h f = f
    from_default (y ∷ ys) (suc i) n d h f = from_default ys i n d (omega arith) f

    in_front : (ys : List ℕ) (i n x : ℕ) → i < n → i < length ys → get_or ys i x ≡ x → Contains (take n ys) x
    in_front [] i n x h f g = absurd (omega arith)
    in_front (y ∷ ys) i zero x h f g = absurd (omega arith)
    in_front (y ∷ ys) zero (suc n) x h f g = (0, omega arith, g)
    in_front (y ∷ ys) (suc i) (suc n) x h f g = let (a, b, c) = in_front ys i n x (omega arith) (omega arith) g in (suc a, omega (arith, b), c)

pub take_cases : {X : Type 0} (xs : List X) (k : ℕ) (d x : X) → k < length xs → Contains (take (k + 1) xs) x → Contains (take k xs) x ⊎ (get_or xs k d ≡ x)
take_cases xs k d x lt c = Contains-push_cases (take k xs) (get_or xs k d) x (subst (λ ys. Contains ys x) (take_more xs k d lt) c)

pub take_end : {X : Type 0} (xs : List X) (k : ℕ) (x : X) → length xs ≤ k → Contains xs x → Contains (take k xs) x
take_end xs k x le c = subst (λ ys. Contains ys x) (sym (take_all k xs le)) c

-- ---- places

pub get_within : {X : Type 0} (xs ys : List X) (k : ℕ) (x : X) → k < length xs → slice_get (xs ++ ys) k ≡ Some x → slice_get xs k ≡ Some x
get_within [] ys k x lt e = absurd (omega arith)
get_within (y ∷ xs) ys zero x lt e = e
get_within (y ∷ xs) ys (suc k) x lt e = get_within xs ys k x (omega arith) e

pub drop_tail : {X : Type 0} (xs : List X) (k : ℕ) (y : X) (ys : List X) → drop k xs ≡ y ∷ ys → drop (k + 1) xs ≡ ys
drop_tail [] zero y ys e = cc
drop_tail [] (suc k) y ys e = cc
drop_tail (x ∷ xs) zero y ys e = cc
drop_tail (x ∷ xs) (suc k) y ys e = ap (λ m. drop m (x ∷ xs)) (let f : suc k + 1 ≡ suc (k + 1) = omega arith in f) ∙ drop_tail xs k y ys e

pub drop_head : {X : Type 0} (xs : List X) (k : ℕ) (y : X) (ys : List X) → drop k xs ≡ y ∷ ys → slice_get xs k ≡ Some y
drop_head [] zero y ys e = cc
drop_head [] (suc k) y ys e = cc
drop_head (x ∷ xs) zero y ys e = cc
drop_head (x ∷ xs) (suc k) y ys e = drop_head xs k y ys e

pub drop_none : {X : Type 0} (xs : List X) (k : ℕ) → drop k xs ≡ [] → length xs ≤ k
drop_none [] k e = omega arith
drop_none (x ∷ xs) zero e = cc
drop_none (x ∷ xs) (suc k) e = let le = drop_none xs k e in omega (arith, le)

pub drop_past : {X : Type 0} (xs : List X) (k : ℕ) (ys zs : List X) → drop k xs ≡ ys ++ zs → drop (k + length ys) xs ≡ zs
drop_past xs k [] zs e = ap (λ m. drop m xs) (let f : k + 0 ≡ k = omega arith in f) ∙ e
drop_past xs k (y ∷ ys) zs e = ap (λ m. drop m xs) (let f : k + suc (length ys) ≡ k + 1 + length ys = omega arith in f) ∙ drop_past xs (k + 1) ys zs (drop_tail xs k y (ys ++ zs) e)

pub set_there : {X : Type 0} (xs : List X) (k m : ℕ) (x : X) → m ≢ k → slice_get (set xs k x) m ≡ slice_get xs m
set_there [] k m x ne = refl
set_there (y ∷ xs) zero zero x ne = absurd (ne refl)
set_there (y ∷ xs) zero (suc m) x ne = refl
set_there (y ∷ xs) (suc k) zero x ne = refl
set_there (y ∷ xs) (suc k) (suc m) x ne = set_there xs k m x (λ e. ne (ap suc e))

-- the element that was read stands in the list
pub read_in : {X : Type 0} (xs : List X) (k : ℕ) (d : X) → k < length xs → Contains xs (get_or xs k d)
read_in xs k d lt = from_place xs k (get_or xs k d) (slice_get-get_or xs k d lt)
