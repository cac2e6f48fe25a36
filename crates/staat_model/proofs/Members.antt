-- Members of lists, and what holds of all of them.
use Rattle.std.proofs.Common.{◌≡◌, ℕ, ◌≤◌, List, [], ◌∷◌, ◌++◌, map, refl, sym, subst, ◌⊎◌, inl, inr, All, Contains}
use Rattle.staat_vec.proofs.Unique.{Contains-front, Contains-later}
use Rattle.std.specs.Prelude.{sum_by}
use Rattle.std.proofs.lemmas.List.Sums.{get_or-le-sum_by}
use Rattle.std.proofs.lemmas.List.Elements.{All-contains, All-weaker, All-contains_itself, All-cons, All-head, All-nil, All-tail}

pub both : {X : Type 0} (P Q R : X → Type 0) → ((x : X) → P x → Q x → R x) → (xs : List X) → All P xs → All Q xs → All R xs
both P Q R f xs h g k d l = f _ (h k d l) (g k d l)

-- the first and the others are members
pub joined : {X : Type 0} (x : X) (xs : List X) (z : X) → (z ≡ x) ⊎ Contains xs z → Contains (x ∷ xs) z
joined x xs z (inl e) = subst (Contains (x ∷ xs)) (sym e) (Contains-front x xs)
joined x xs z (inr later) = Contains-later x xs z later

-- what holds of each member holds of all
pub All-from_members : {X : Type 0} (P : X → Type 0) (xs : List X) → ((x : X) → Contains xs x → P x) → All P xs
All-from_members P xs f = All-weaker (Contains xs) P f xs (All-contains_itself xs)

-- what holds of all of two lists holds of each
pub all_front : {X : Type 0} (P : X → Type 0) (xs ys : List X) → All P (xs ++ ys) → All P xs
all_front P [] ys h = All-nil P
all_front P (x ∷ xs) ys h = All-cons P x xs (All-head P x (xs ++ ys) h) (all_front P xs ys (All-tail P x (xs ++ ys) h))

pub all_back : {X : Type 0} (P : X → Type 0) (xs ys : List X) → All P (xs ++ ys) → All P ys
all_back P [] ys h = h
all_back P (x ∷ xs) ys h = all_back P xs ys (All-tail P x (xs ++ ys) h)

-- lists whose members are known by what f says of them are known by it
pub known_by : {X Y : Type 0} (f : X → Y) (P : X → Type 0) → ((x y : X) → f x ≡ f y → P x → P y → x ≡ y)
    → (xs ys : List X) → map f xs ≡ map f ys → All P xs → All P ys → xs ≡ ys
known_by f P one [] [] e g h = refl
known_by f P one (x ∷ xs) (y ∷ ys) e g h =
    let heads : f x ≡ f y = cc in
    let tails : map f xs ≡ map f ys = cc in
    let front : x ≡ y = one x y heads (All-head P x xs g) (All-head P y ys h) in
    let rest : xs ≡ ys = known_by f P one xs ys tails (All-tail P x xs g) (All-tail P y ys h) in
    λ i. front i ∷ rest i
known_by f P one xs ys e g h = absurd cc

-- a member's part of a sum is at most the whole
pub member_le : {X : Type 0} (f : X → ℕ) (xs : List X) (x : X) → Contains xs x → f x ≤ sum_by f xs
member_le f xs x c = All-contains (λ y. f y ≤ sum_by f xs) xs x (λ i d lt. get_or-le-sum_by f xs i d lt) c

-- where P holds of all members in front, and not of one with which what follows begins, there is one way to cut
pub cut_once : {X : Type 0} (P : X → Type 0) (E : List X → Type 0) → ((x : X) (p : List X) → E (x ∷ p) → P x → ⊥)
    → (xs ys p q : List X) → All P xs → All P ys → E p → E q → xs ++ p ≡ ys ++ q → (xs ≡ ys) × (p ≡ q)
cut_once P E clash [] [] p q a b c d e = (refl, e)
cut_once P E clash [] (y ∷ ys) p q a b c d e = absurd (clash y (ys ++ q) (subst E e c) (All-head P y ys b))
cut_once P E clash (x ∷ xs) [] p q a b c d e = absurd (clash x (xs ++ p) (subst E (sym e) d) (All-head P x xs a))
cut_once P E clash (x ∷ xs) (y ∷ ys) p q a b c d e =
    let first : x ≡ y = cc in
    let others : xs ++ p ≡ ys ++ q = cc in
    let rest = cut_once P E clash xs ys p q (All-tail P x xs a) (All-tail P y ys b) c d others in
    (λ i. first i ∷ rest.0 i, rest.1)
