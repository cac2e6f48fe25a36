-- Lists of all that has a property.
use Rattle.std.proofs.Common.{◌≡◌, ℕ, zero, suc, ◌<◌, List, [], ◌∷◌, ◌++◌, arith, sym, subst, inl, inr}
use Rattle.std.specs.Prelude.{Contains}
use Rattle.std.proofs.lemmas.List.Elements.{Contains-append_left, Contains-append_right, Contains-append_cases}
use Rattle.std.specs.Cmp.{IsTotalOrder}
use Rattle.std.specs.FinMap.{IsAntisymmetric}
use Rattle.std.specs.declared.cmp.Ordering.{Ordering}
use Rattle.staat_vec.specs.Lists.{Lists}
use Rattle.staat_vec.proofs.Unique.{Contains-cases, Contains-front, Contains-later, Contains-nothing}
use Rattle.staat_model.proofs.Decisions.{Decided, kept, lt_or, sorted}

-- the members of the list are exactly what has P
pub record Listing {X : Type 0} (P : X → Type 0) : Type 0 where
  pub xs : List X
  pub from : (x : X) → Contains xs x → P x
  pub all : (x : X) → P x → Contains xs x

pub listing_as : {X : Type 0} {P Q : X → Type 0} → ((x : X) → P x → Q x) → ((x : X) → Q x → P x) → Listing P → Listing Q
listing_as f g t = record { xs = t.xs; from = λ x c. f x (t.from x c); all = λ x q. t.all x (g x q) }

pub listing_members : {X : Type 0} (xs : List X) → Listing (Contains xs)
listing_members xs = record { xs = xs; from = λ x c. c; all = λ x c. c }

pub listing_none : {X : Type 0} {P : X → Type 0} → ((x : X) → P x → ⊥) → Listing P
listing_none none = record { xs = []; from = λ x c. absurd (Contains-nothing x c); all = λ x p. absurd (none x p) }

pub listing_and : {X : Type 0} {P : X → Type 0} (Q : X → Type 0) → ((x : X) → Decided (Q x)) → Listing P → Listing (λ x. P x × Q x)
listing_and Q f t =
    let (ys, from, all) = kept Q f t.xs in
    record { xs = ys; from = λ y c. (t.from y (from y c).0, (from y c).1); all = λ y h. all y (t.all y h.0) h.1 }

pub listing_below : (n : ℕ) → Listing (λ k. k < n)
listing_below zero = record { xs = []; from = λ k c. absurd (Contains-nothing k c); all = λ k lt. absurd (omega (arith, lt)) }
listing_below (suc n) =
    let t = listing_below n in
    record {
      xs = n ∷ t.xs;
      from = λ k c. elim (Contains-cases n t.xs k c) [ inl e ↦ omega (arith, e) | inr later ↦ (let lt : k < n = t.from k later in omega (arith, lt)) ];
      all = λ k lt. elim (lt_or k n) [ inl low ↦ Contains-later n t.xs k (t.all k low) | inr high ↦ (let e : n ≡ k = omega (arith, lt, high) in subst (Contains (n ∷ t.xs)) e (Contains-front n t.xs)) ];
    }

gathered : {X Y : Type 0} (Q : X → Y → Type 0) → ((x : X) → Listing (Q x)) → (xs : List X) → Listing (λ y. (x : X) × Contains xs x × Q x y)
gathered Q f [] = listing_none (λ y h. Contains-nothing h.0 h.1)
gathered {X} {Y} Q f (x ∷ xs) =
    let here = f x in
    let rest = gathered Q f xs in
    record {
      xs = here.xs ++ rest.xs;
      from = λ y c. elim (Contains-append_cases here.xs rest.xs y c) [
        | inl a ↦ (x, Contains-front x xs, here.from y a)
        | inr b ↦ (let h = rest.from y b in (h.0, Contains-later x xs h.0 h.1, h.2))
      ];
      all = λ y h. elim (Contains-cases x xs h.0 h.1) [
        | inl e ↦ Contains-append_left here.xs rest.xs y (here.all y (subst (λ z. Q z y) e h.2))
        | inr later ↦ Contains-append_right here.xs rest.xs y (rest.all y (h.0, later, h.2))
      ];
    }

-- what belongs to something that has P
pub listing_over : {X Y : Type 0} {P : X → Type 0} (Q : X → Y → Type 0) → Listing P → ((x : X) → Listing (Q x)) → Listing (λ y. (x : X) × P x × Q x y)
listing_over Q t f = listing_as (λ y h. (h.0, t.from h.0 h.1, h.2)) (λ y h. (h.0, t.all h.0 h.1, h.2)) (gathered Q f t.xs)

pub listing_image : {X Y : Type 0} {P : X → Type 0} (f : X → Y) → Listing P → Listing (λ y. (x : X) × P x × (y ≡ f x))
listing_image f t = listing_over (λ x y. y ≡ f x) t (λ x. record { xs = f x ∷ []; from = λ y c. elim (Contains-cases (f x) [] y c) [ inl e ↦ e | inr later ↦ absurd (Contains-nothing y later) ]; all = λ y e. subst (Contains (f x ∷ [])) (sym e) (Contains-front (f x) []) })

pub listing_sorted : {X : Type 0} {P : X → Type 0} (cmp : X → X → Ordering) → IsTotalOrder cmp → IsAntisymmetric cmp → Listing P → (ys : List X) × Lists cmp P ys
listing_sorted cmp o exact t =
    let s = sorted cmp o exact t.xs in
    (s.0, record { ascending = s.1.ascending; each = λ x c. t.from x (s.1.each x c); all = λ x p. s.1.all x (t.all x p) })
