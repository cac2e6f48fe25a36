-- What is found is the only thing that can be found.
use Rattle.std.proofs.Common.{◌≡◌, ◌⊎◌, ⊎_elim, ℕ, zero, suc, List, [], ◌∷◌, arith, ap, sym, ◌∙◌, subst, refl, inl, inr}
use Rattle.std.specs.Prelude.{Contains, Some, slice_get}
use Rattle.std.proofs.lemmas.Option.{get_or_from_slice_get, slice_get_within}
use Rattle.std.proofs.lemmas.List.Elements.{All-contains, All-from_recursion}
use Rattle.std.specs.List.{AllByRecursion}
use Rattle.std.specs.List.Sorted.{IsStrictlySortedBy}
use Rattle.std.specs.Cmp.{IsTotalOrder}
use Rattle.std.specs.FinMap.{IsAntisymmetric}
use Rattle.std.specs.Ordering.{ordering_reverse}
use Rattle.std.specs.declared.cmp.Ordering.{Ordering}
use Rattle.std.specs.declared.cmp.Ordering.TheVariants.{Less, Greater}
use Rattle.staat_vec.specs.Lists.{IsFirst, IsLeast, Lists}

-- the element in front, or a later one
pub Contains-cases : {X : Type 0} (y : X) (ys : List X) (x : X) → Contains (y ∷ ys) x → (x ≡ y) ⊎ Contains ys x
Contains-cases y ys x (zero, lt, is) = inl (sym is)
Contains-cases y ys x (suc k, lt, is) = inr (k, omega (arith, lt), is)

pub Contains-front : {X : Type 0} (y : X) (ys : List X) → Contains (y ∷ ys) y
Contains-front y ys = (0, omega arith, refl)

pub Contains-later : {X : Type 0} (y : X) (ys : List X) (x : X) → Contains ys x → Contains (y ∷ ys) x
Contains-later y ys x (k, lt, is) = (suc k, omega (arith, lt), is)

pub Contains-nothing : {X : Type 0} (x : X) → Contains {X = X} [] x → ⊥
Contains-nothing x (k, lt, is) = absurd (omega (arith, lt))

pub from_place : {X : Type 0} (xs : List X) (k : ℕ) (x : X) → slice_get xs k ≡ Some x → Contains xs x
from_place xs k x e = (k, slice_get_within xs k x e, get_or_from_slice_get xs k x x e)

-- the first element is one alone
pub IsFirst-unique : {X : Type 0} (P : X → Type 0) (xs : List X) (x y : X) → IsFirst P xs x → IsFirst P xs y → x ≡ y
IsFirst-unique P (z ∷ xs) x y (inl a) (inl b) = a.0 ∙ sym b.0
IsFirst-unique P (z ∷ xs) x y (inl a) (inr b) = absurd (b.0 a.1)
IsFirst-unique P (z ∷ xs) x y (inr a) (inl b) = absurd (a.0 b.1)
IsFirst-unique P (z ∷ xs) x y (inr a) (inr b) = IsFirst-unique P xs x y a.1 b.1
IsFirst-unique P [] x y a b = absurd a

pub IsFirst-in : {X : Type 0} (P : X → Type 0) (xs : List X) (x : X) → IsFirst P xs x → Contains xs x × P x
IsFirst-in P [] x first = absurd first
IsFirst-in P (z ∷ xs) x (inl a) = (subst (Contains (z ∷ xs)) (sym a.0) (Contains-front z xs), subst P (sym a.0) a.1)
IsFirst-in P (z ∷ xs) x (inr a) = let later : Contains xs x × P x = IsFirst-in P xs x a.1 in (Contains-later z xs x later.0, later.1)

module _ {X : Type 0} (cmp : X → X → Ordering) (o : IsTotalOrder cmp) (exact : IsAntisymmetric cmp) where
  -- not both ways
  one_way : (x y : X) → cmp x y ≡ Less → cmp y x ≡ Less → ⊥
  one_way x y a b = absurd_less (sym a ∙ o.antisymm x y ∙ ap ordering_reverse b)
    where
      absurd_less : Less ≡ Greater → ⊥
      absurd_less e = cc

  below_all : (x y : X) (ys : List X) → AllByRecursion (λ z. cmp x z ≡ Less) ys → Contains ys y → cmp x y ≡ Less
  below_all x y ys all has = All-contains (λ z. cmp x z ≡ Less) ys y (All-from_recursion (λ z. cmp x z ≡ Less) ys all) has

  not_behind : (x y : X) (ys : List X) → AllByRecursion (λ z. cmp x z ≡ Less) ys → Contains ys y → x ≡ y → ⊥
  not_behind x y ys all has e = let less : cmp x x ≡ Less = subst (λ z. cmp x z ≡ Less) (sym e) (below_all x y ys all has) in one_way x x less less

  pub same_list : (xs ys : List X) → IsStrictlySortedBy cmp xs → IsStrictlySortedBy cmp ys → ((x : X) → Contains xs x → Contains ys x) → ((x : X) → Contains ys x → Contains xs x) → xs ≡ ys
  unfolding IsStrictlySortedBy
  same_list [] [] p q f g = refl
  same_list [] (y ∷ ys) p q f g = absurd (Contains-nothing y (g y (Contains-front y ys)))
  same_list (x ∷ xs) [] p q f g = absurd (Contains-nothing x (f x (Contains-front x xs)))
  same_list (x ∷ xs) (y ∷ ys) p q f g =
      let front : x ≡ y = elim (Contains-cases y ys x (f x (Contains-front x xs))) [
        | inl e ↦ e
        | inr x_later ↦ elim (Contains-cases x xs y (g y (Contains-front y ys))) [
          | inl e ↦ sym e
          | inr y_later ↦ absurd (one_way x y (below_all x y xs p.0 y_later) (below_all y x ys q.0 x_later))
        ]
      ] in
      let rest : xs ≡ ys = same_list xs ys p.1 q.1
      (λ z has. ⊎_elim (λ e. absurd (not_behind x z xs p.0 has (front ∙ sym e))) (λ later. later) (Contains-cases y ys z (f z (Contains-later x xs z has))))
      (λ z has. ⊎_elim (λ e. absurd (not_behind y z ys q.0 has (sym front ∙ sym e))) (λ later. later) (Contains-cases x xs z (g z (Contains-later y ys z has)))) in
      λ i. front i ∷ rest i

  pub Lists-unique : (P : X → Type 0) (xs ys : List X) → Lists cmp P xs → Lists cmp P ys → xs ≡ ys
  Lists-unique P xs ys a b = same_list xs ys a.ascending b.ascending (λ x has. b.all x (a.each x has)) (λ x has. a.all x (b.each x has))

  pub IsLeast-unique : (P : X → Type 0) (x y : X) → IsLeast cmp P x → IsLeast cmp P y → x ≡ y
  IsLeast-unique P x y a b = elim (a.least y b.has) [
    | inl e ↦ sym e
    | inr x_below ↦ elim (b.least x a.has) [ inl e ↦ e | inr y_below ↦ absurd (one_way x y x_below y_below) ]
  ]

  -- no element of an ascending list stands at two places
  pub sorted_once : (xs : List X) → IsStrictlySortedBy cmp xs → (k m : ℕ) (x : X) → slice_get xs k ≡ Some x → slice_get xs m ≡ Some x → k ≡ m
  unfolding IsStrictlySortedBy
  sorted_once [] sorted k m x a b = cc
  sorted_once (y ∷ ys) sorted zero zero x a b = refl
  sorted_once (y ∷ ys) sorted zero (suc m) x a b = absurd (not_behind y x ys sorted.0 (from_place ys m x b) cc)
  sorted_once (y ∷ ys) sorted (suc k) zero x a b = absurd (not_behind y x ys sorted.0 (from_place ys k x a) cc)
  sorted_once (y ∷ ys) sorted (suc k) (suc m) x a b = ap suc (sorted_once ys sorted.1 k m x a b)
