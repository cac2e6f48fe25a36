-- Lists: what stands at a place, members, and what a list that is mapped, cut, filled or filtered holds.
use Rattle.std.proofs.Common.{List, ap, get_or, length, sym, ℕ, ◌<◌, ◌∙◌, ◌≡◌, Contains, [], arith, refl, suc, zero, ◌∷◌, ◌++◌, drop, ◌+◌, inl, inr, ⊎_elim, ◌⊎◌, set, map, subst, Bool, cond, false, true, take, ◌≤◌, ◌≢◌, sum, ◌&&◌}
use Rattle.std.specs.Prelude.{Some, slice_get, option_map, replicate, slice_index, All, flat_map, ◌==◌}
use Rattle.std.proofs.lemmas.Option.{slice_get-get_or, get_or_from_slice_get, slice_get-map, slice_get_within}
use Rattle.std.proofs.lemmas.List.{get_or-map, get_or-replicate, get_or-set_same, get_or_default, get_or_past, get_or_read, length-map, length-replicate, length-set, nil_from_length, take_all, take_more, append-nil, drop_all}
use Rattle.staat_vec.proofs.Naturals.{lt_or_le, same_or}
use Rattle.staat_vec.proofs.Unique.{Contains-cases, Contains-front, Contains-later, Contains-nothing, from_place}
use Rattle.std.specs.List.{filter, AllByRecursion}
use Rattle.std.proofs.lemmas.List.Elements.{All-head, All-nil, All-tail, All-append, All-contains, All-contains_itself, All-filter, All-from_recursion, All-map as mapped, All-push, All-weaker, recursion_from_All}
use Rattle.staat_vec.proofs.Options.{option_map_found}
use Rattle.std.proofs.lemmas.List.Concat.{flat_map-cons}
use Rattle.staat_vec.specs.Lists.{IsFirst, FailsFirst}
use Rattle.std.proofs.lemmas.Bool.{eqb-true}
use Rattle.std.proofs.lemmas.List.Sums.{sum_by-cons}

-- ---- what stands at a place

pub place_is : {X : Type 0} (xs : List X) (k : ℕ) (x : X) → k < length xs → x ≡ get_or xs k x → slice_get xs k ≡ Some x
place_is xs k x lt e = slice_get-get_or xs k x lt ∙ ap Some (sym e)

pub place_of : {X : Type 0} (xs : List X) (x : X) → Contains xs x → (k : ℕ) × (slice_get xs k ≡ Some x)
place_of xs x (k, lt, e) = (k, slice_get-get_or xs k x lt ∙ (λ i. Some (e i)))

pub any_default : {X : Type 0} (xs : List X) (k : ℕ) (d e : X) → k < length xs → get_or xs k d ≡ get_or xs k e
any_default = get_or_default

pub other_default : {X : Type 0} (xs : List X) (i : ℕ) (x d : X) → i < length xs → x ≡ get_or xs i x → x ≡ get_or xs i d
other_default xs i x d lt is = get_or_read xs i x lt is d

pub get_front : {X : Type 0} (xs ys : List X) (k : ℕ) (x : X) → slice_get xs k ≡ Some x → slice_get (xs ++ ys) k ≡ Some x
get_front [] ys k x e = cc
get_front (y ∷ xs) ys zero x e = e
get_front (y ∷ xs) ys (suc k) x e = get_front xs ys k x e

pub get_drop : {X : Type 0} (xs : List X) (n k : ℕ) → slice_get (drop n xs) k ≡ slice_get xs (n + k)
get_drop xs zero k = ap (slice_get xs) (let e : k ≡ 0 + k = omega arith in e)
get_drop [] (suc n) k = refl
get_drop (x ∷ xs) (suc n) k = get_drop xs n k ∙ ap (slice_get (x ∷ xs)) (let e : suc (n + k) ≡ suc n + k = omega arith in e)

-- the element at a place of a list with one more at the end
pub push_cases : {X : Type 0} (xs : List X) (y x : X) (k : ℕ) → slice_get (xs ++ y ∷ []) k ≡ Some x → (slice_get xs k ≡ Some x) ⊎ ((k ≡ length xs) × (y ≡ x))
push_cases [] y x zero e = inr (refl, (let same : y ≡ x = cc in same))
push_cases [] y x (suc k) e = absurd cc
push_cases (z ∷ xs) y x zero e = inl e
push_cases (z ∷ xs) y x (suc k) e = ⊎_elim (λ h. inl h) (λ h. inr (ap suc h.0, h.1)) (push_cases xs y x k e)

pub push_front : {X : Type 0} (xs : List X) (y x : X) (k : ℕ) → slice_get xs k ≡ Some x → slice_get (xs ++ y ∷ []) k ≡ Some x
push_front xs y x k e = get_front xs (y ∷ []) k x e

pub push_end : {X : Type 0} (xs : List X) (y : X) → slice_get (xs ++ y ∷ []) (length xs) ≡ Some y
push_end [] y = refl
push_end (z ∷ xs) y = push_end xs y

pub set_here : {X : Type 0} (xs : List X) (k : ℕ) (x : X) → k < length xs → slice_get (set xs k x) k ≡ Some x
set_here xs k x lt = slice_get-get_or (set xs k x) k x (omega (arith, length-set xs k x, lt)) ∙ ap Some (get_or-set_same xs k x x lt)

pub place_in_map : {X Y : Type 0} (f : X → Y) (xs : List X) (k : ℕ) (y : Y) → slice_get (map f xs) k ≡ Some y → (x : X) × (slice_get xs k ≡ Some x) × (f x ≡ y)
place_in_map f xs k y e = option_map_found f (slice_get xs k) y (sym (slice_get-map f xs k) ∙ e)

pub map_at_place : {X Y : Type 0} (f : X → Y) (xs : List X) (k : ℕ) (x : X) → slice_get xs k ≡ Some x → slice_get (map f xs) k ≡ Some (f x)
map_at_place f xs k x e = slice_get-map f xs k ∙ ap (option_map f) e

pub slice_index-zeros : (n x : ℕ) → slice_index (replicate n 0) x ≡ 0
slice_index-zeros n x = ⊎_elim {C = slice_index (replicate n 0) x ≡ 0} (λ lt. get_or-replicate n x 0 0 lt) (λ past. get_or_past (replicate n 0) x 0 (let e = length-replicate {A = ℕ} n 0 in omega (arith, e, past))) (lt_or_le x n)

-- ---- members

pub Contains-there : {X : Type 0} (y x : X) (xs : List X) → Contains xs x → Contains (y ∷ xs) x
Contains-there y x xs (k, h, e) = (suc k, omega arith, e)

pub only_one : {X : Type 0} (h x : X) → Contains (h ∷ []) x → x ≡ h
only_one h x c = ⊎_elim (λ e. e) (λ none. absurd (Contains-nothing x none)) (Contains-cases h [] x c)

pub contains_or : (xs : List ℕ) (j : ℕ) → Contains xs j ⊎ (Contains xs j → ⊥)
contains_or [] j = inr (λ c. Contains-nothing j c)
contains_or (x ∷ xs) j = ⊎_elim {C = Contains (x ∷ xs) j ⊎ (Contains (x ∷ xs) j → ⊥)} (λ e. inl (subst (Contains (x ∷ xs)) e (Contains-front x xs)))
    (λ ne. ⊎_elim {C = Contains (x ∷ xs) j ⊎ (Contains (x ∷ xs) j → ⊥)} (λ c. inl (Contains-later x xs j c)) (λ none. inr (λ c. ⊎_elim (λ e. ne (sym e)) none (Contains-cases x xs j c))) (contains_or xs j))
    (same_or x j)

pub Contains-map : {X Y : Type 0} (f : X → Y) (xs : List X) (x : X) → Contains xs x → Contains (map f xs) (f x)
Contains-map f xs x (i, lt, e) = (i, omega (arith, lt, length-map xs f), get_or-map f xs i x (f x) lt ∙ ap f e)

pub Contains-from_map : {X Y : Type 0} (f : X → Y) (xs : List X) (y : Y) → Contains (map f xs) y → (x : X) × Contains xs x × (f x ≡ y)
Contains-from_map f [] y (i, lt, e) = absurd (omega arith)
Contains-from_map f (x ∷ xs) y (zero, lt, e) = (x, (zero, omega arith, refl), e)
Contains-from_map f (x ∷ xs) y (suc i, lt, e) = let r = Contains-from_map f xs y (i, omega arith, e) in (r.0, (suc r.1.0, omega (arith, r.1.1), r.1.2), r.2)

pub filter_inside : (test : ℕ → Bool) (xs : List ℕ) (v : ℕ) → Contains (filter test xs) v → Contains xs v
filter_inside test xs v = All-contains (Contains xs) (filter test xs) v (All-filter test (Contains xs) xs (All-contains_itself xs))

-- ---- all members

pub All-at : {X : Type 0} (P : X → Type 0) (xs : List X) (i : ℕ) (x : X) → slice_get xs i ≡ Some x → All P xs → P x
All-at P xs i x e all = subst P (get_or_from_slice_get xs i x x e) (all i x (slice_get_within xs i x e))

pub All-taken : {X : Type 0} (P : X → Type 0) (xs : List X) (k : ℕ) → length xs ≤ k → All P (take k xs) → All P xs
All-taken P xs k le all = subst (All P) (take_all k xs le) all

pub All-map : {X Y : Type 0} (f : X → Y) (P : Y → Type 0) (xs : List X) → All (λ x. P (f x)) xs → All P (map f xs)
All-map f P = mapped P f

-- each element that a function makes of one of the list
pub All-flat_map : {X Y : Type 0} (P : Y → Type 0) (f : X → List Y) (xs : List X) → ((x : X) → Contains xs x → All P (f x)) → All P (flat_map f xs)
All-flat_map P f [] h = All-nil P
All-flat_map P f (x ∷ xs) h = subst (All P) (sym (flat_map-cons f x xs)) (All-append P (f x) (flat_map f xs) (h x (Contains-front x xs)) (All-flat_map P f xs (λ y c. h y (Contains-there x y xs c))))

pub all_of : {X : Type 0} (P : X → Type 0) (xs : List X) → ((x : X) → Contains xs x → P x) → AllByRecursion P xs
all_of P xs h = recursion_from_All P xs (All-weaker (Contains xs) P h xs (All-contains_itself xs))

pub push_each : (P : ℕ → Type 0) (xs : List ℕ) (x : ℕ) → AllByRecursion P xs → P x → AllByRecursion P (xs ++ x ∷ [])
push_each P xs x h p = recursion_from_All P (xs ++ x ∷ []) (All-push P xs x (All-from_recursion P xs h) p)

-- ---- the first

pub first_left : {X : Type 0} (P : X → Type 0) (xs ys : List X) (x : X) → IsFirst P xs x → IsFirst P (xs ++ ys) x
first_left P [] ys x h = absurd h
first_left P (z ∷ xs) ys x (inl h) = inl h
first_left P (z ∷ xs) ys x (inr h) = inr (h.0, first_left P xs ys x h.1)

pub first_right : {X : Type 0} (P : X → Type 0) (xs ys : List X) (x : X) → All (λ y. P y → ⊥) xs
    → IsFirst P ys x → IsFirst P (xs ++ ys) x
first_right P [] ys x none h = h
first_right P (z ∷ xs) ys x none h =
    inr (All-head (λ y. P y → ⊥) z xs none, first_right P xs ys x (All-tail (λ y. P y → ⊥) z xs none) h)

pub FailsFirst-some : {X : Type 0} (P : X → Type 0) (xs : List X) (k : ℕ) → FailsFirst P xs k → All P xs → ⊥
FailsFirst-some P xs k f all = f.fails (All-contains P xs f.x all (from_place xs k f.x f.at))

-- ---- lengths and ends

pub append_nothing : {X : Type 0} (xs : List X) → xs ++ [] ≡ xs
append_nothing = append-nil

pub length_test_nil : {X : Type 0} (xs : List X) → (length xs == 0) ≡ true → xs ≡ []
length_test_nil xs e = nil_from_length xs (eqb-true (length xs) 0 e)

pub append_not_nil : (a m : List ℕ) → a ≢ [] → a ++ m ≢ []
append_not_nil [] m n e = n refl
append_not_nil (x ∷ a) m n e = cc

pub long_not_nil : (line rest : List ℕ) → length line ≡ 128 → line ++ rest ≡ [] → ⊥
long_not_nil [] rest n q = absurd (omega arith)
long_not_nil (b ∷ line) rest n q = cc

pub map_length : {X Y : Type 0} (f : X → Y) (xs : List X) → length (map f xs) ≡ length xs
map_length f xs = length-map xs f

pub take_next : {X : Type 0} (xs : List X) (i : ℕ) (x : X) → slice_get xs i ≡ Some x → take (i + 1) xs ≡ take i xs ++ x ∷ []
take_next xs i x e = take_more xs i x (slice_get_within xs i x e) ∙ ap (λ y. take i xs ++ y ∷ []) (get_or_from_slice_get xs i x x e)

pub drop_end : {X : Type 0} (xs : List X) (k : ℕ) → length xs ≤ k → drop k xs ≡ []
drop_end xs k = drop_all k xs

pub written_back : {X : Type 0} (before after : List X) (len : ℕ) → length after ≡ length before → len ≡ length before → take len (after ++ drop (length after) before) ≡ after
written_back before after len e f =
    ap (λ rest. take len (after ++ rest)) (drop_all (length after) before (omega (arith, e))) ∙ ap (take len) (append-nil after) ∙ take_all len after (omega (arith, e, f))

pub sum-cons : (x : ℕ) (xs : List ℕ) → sum (x ∷ xs) ≡ x + sum xs
sum-cons x xs = sum_by-cons (λ x. x) x xs

-- ---- maps and filters

pub map_twice : {X Y Z : Type 0} (f : Y → Z) (h : X → Y) (xs : List X) → map f (map h xs) ≡ map (λ x. f (h x)) xs
map_twice f h [] = refl
map_twice f h (x ∷ xs) = ap (λ zs. f (h x) ∷ zs) (map_twice f h xs)

pub filter_twice : (p q : ℕ → Bool) (xs : List ℕ) → filter q (filter p xs) ≡ filter (λ y. p y && q y) xs
filter_twice p q [] = refl
filter_twice p q (x ∷ xs) = step (p x) (filter_twice p q xs)
  where
    step : (a : Bool) → filter q (filter p xs) ≡ filter (λ y. p y && q y) xs
        → filter q (cond a (x ∷ filter p xs) (filter p xs)) ≡ cond (a && q x) (x ∷ filter (λ y. p y && q y) xs) (filter (λ y. p y && q y) xs)
    step true ih = ap (λ r. cond (q x) (x ∷ r) r) ih
    step false ih = ih
