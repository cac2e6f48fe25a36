-- The element at a place of a list.
use Rattle.std.proofs.Common.{◌≡◌, ◌⊎◌, ℕ, zero, suc, ◌<◌, ◌+◌, List, [], ◌∷◌, ◌++◌, length, arith, inl, inr, refl, subst, sym, ◌∙◌, ⊎_elim}
use Rattle.std.specs.Prelude.{Some, slice_get}
use Rattle.std.proofs.lemmas.Option.{slice_get_within}
use Rattle.staat_vec.proofs.Options.{some_injective}

pub place_within : {X : Type 0} (xs : List X) (k : ℕ) (x : X) → slice_get xs k ≡ Some x → k < length xs
place_within xs k x e = slice_get_within xs k x e

-- two elements at one place are one
pub one_at_place : {X : Type 0} (xs : List X) (k : ℕ) (x y : X) → slice_get xs k ≡ Some x → slice_get xs k ≡ Some y → x ≡ y
one_at_place xs k x y a b = some_injective x y (sym a ∙ b)

-- lists are equal where they have the same elements at the same places
pub same_places : {X : Type 0} (xs ys : List X) → ((k : ℕ) (x : X) → slice_get xs k ≡ Some x → slice_get ys k ≡ Some x) → ((k : ℕ) (x : X) → slice_get ys k ≡ Some x → slice_get xs k ≡ Some x) → xs ≡ ys
same_places [] [] f g = refl
same_places [] (y ∷ ys) f g = let wrong = g 0 y refl in cc
same_places (x ∷ xs) [] f g = let wrong = f 0 x refl in cc
same_places (x ∷ xs) (y ∷ ys) f g =
    let rest : xs ≡ ys = same_places xs ys (λ k z e. f (suc k) z e) (λ k z e. g (suc k) z e) in
    let front : y ≡ x = some_injective y x (f 0 x refl) in
    λ i. sym front i ∷ rest i

-- an element stands at each place below the length
pub some_at : {X : Type 0} (xs : List X) (k : ℕ) → k < length xs → (x : X) × (slice_get xs k ≡ Some x)
some_at [] k lt = absurd (omega arith)
some_at (x ∷ xs) zero lt = (x, refl)
some_at (x ∷ xs) (suc k) lt = some_at xs k (omega arith)

-- the elements of two lists in one
pub get_behind : {X : Type 0} (xs ys : List X) (k m : ℕ) (x : X) → m ≡ length xs + k → slice_get ys k ≡ Some x → slice_get (xs ++ ys) m ≡ Some x
get_behind [] ys k m x p e = subst (λ j. slice_get ys j ≡ Some x) (let same : k ≡ m = omega (arith, p) in same) e
get_behind (y ∷ xs) ys k zero x p e = absurd (omega (arith, p))
get_behind (y ∷ xs) ys k (suc m) x p e = get_behind xs ys k m x (omega (arith, p)) e

pub place_cases : {X : Type 0} (xs ys : List X) (k : ℕ) (x : X) → slice_get (xs ++ ys) k ≡ Some x → (slice_get xs k ≡ Some x) ⊎ ((i : ℕ) × (k ≡ length xs + i) × (slice_get ys i ≡ Some x))
place_cases [] ys k x e = inr (k, omega arith, e)
place_cases (y ∷ xs) ys zero x e = inl e
place_cases (y ∷ xs) ys (suc k) x e = ⊎_elim (λ h. inl h) (λ (i, n, h). inr (i, omega (arith, n), h)) (place_cases xs ys k x e)
