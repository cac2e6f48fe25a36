-- What can be decided, and the first and the least that is found.
use Rattle.std.proofs.Common.{◌≡◌, ◌⊎◌, ℕ, zero, suc, ◌<◌, ℤ, ◌≤ℤ◌, ◌<ℤ◌, List, [], ◌∷◌, All, arith, ap, sym, ◌∙◌, subst, refl, inl, inr, ⊎_elim}
use Rattle.std.specs.Prelude.{Contains, Some, slice_get}
use Rattle.std.proofs.lemmas.Int.{by_lt_z, ints}
use Rattle.std.proofs.lemmas.List.Elements.{All-cons, All-contains, All-from_recursion, All-head, All-nil, All-tail, recursion_from_All}
use Rattle.std.specs.Cmp.{IsTotalOrder, tied_itself}
use Rattle.std.specs.FinMap.{IsAntisymmetric}
use Rattle.std.specs.List.{AllByRecursion}
use Rattle.std.specs.List.Sorted.{IsStrictlySortedBy}
use Rattle.std.specs.Ordering.{ordering_reverse}
use Rattle.std.specs.declared.cmp.Ordering.{Ordering}
use Rattle.std.specs.declared.cmp.Ordering.TheVariants.{Less, Equal, Greater}
use Rattle.staat_vec.specs.Lists.{FailsFirst, IsFirst, Lists}
use Rattle.staat_vec.proofs.Unique.{Contains-cases, Contains-front, Contains-later, Contains-nothing}
use Rattle.staat_model.proofs.Members.{All-from_members, joined}
use Rattle.staat_vec.proofs.ListLaws.{All-at}

abbrev pub Decided : Type 0 → Type 0
Decided P = P ⊎ (P → ⊥)

pub both_or : {P Q : Type 0} → Decided P → Decided Q → Decided (P × Q)
both_or (inr n) q = inr (λ h. n h.0)
both_or (inl p) (inr n) = inr (λ h. n h.1)
both_or (inl p) (inl q) = inl (p, q)

pub not_or : {P : Type 0} → Decided P → Decided (P → ⊥)
not_or (inl p) = inr (λ n. n p)
not_or (inr n) = inl n

pub either_or : {P Q : Type 0} → Decided P → Decided Q → Decided (P ⊎ Q)
either_or (inl p) q = inl (inl p)
either_or (inr n) (inl q) = inl (inr q)
either_or (inr n) (inr m) = inr (λ h. ⊎_elim n m h)

pub carried : {P Q : Type 0} → (P → Q) → (Q → P) → Decided P → Decided Q
carried f g (inl p) = inl (f p)
carried f g (inr n) = inr (λ q. n (g q))

pub lt_or : (a b : ℕ) → Decided (a < b)
lt_or a b = grind arith

pub nat_or : (a b : ℕ) → Decided (a ≡ b)
nat_or a b = grind arith

pub le_or : (a b : ℤ) → Decided (a ≤ℤ b)
le_or a b = by_lt_z {P = Decided (a ≤ℤ b)} b a (λ less. inr (λ h. omega (arith, ints, less, h))) (λ le. inl le)

pub less_or : (a b : ℤ) → Decided (a <ℤ b)
less_or a b = by_lt_z {P = Decided (a <ℤ b)} a b (λ less. inl less) (λ le. inr (λ h. omega (arith, ints, le, h)))

-- ---- lists

-- of members for which it can be decided, all keep the rule, or there is a first that breaks it
pub all_or_where : {X : Type 0} (Q P : X → Type 0) → ((x : X) → Q x → Decided (P x)) → (xs : List X) → All Q xs → All P xs ⊎ ((k : ℕ) × FailsFirst P xs k)
all_or_where Q P f [] all = inl (All-nil P)
all_or_where {X} Q P f (x ∷ xs) all = elim (f x (All-head Q x xs all)) [
  | inr n ↦ inr (0, record { x = x; at = refl; fails = n; before = λ m y lt e. absurd (omega (arith, lt)) })
  | inl p ↦ elim (all_or_where Q P f xs (All-tail Q x xs all)) [
    | inl rest ↦ inl (All-cons P x xs p rest)
    | inr (k, fails) ↦ inr (suc k, record { x = fails.x; at = fails.at; fails = fails.fails; before = earlier p k fails.before })
  ]
]
  where
    earlier : P x → (k : ℕ) → ((m : ℕ) (y : X) → m < k → slice_get xs m ≡ Some y → P y) → (m : ℕ) (y : X) → m < suc k → slice_get (x ∷ xs) m ≡ Some y → P y
    earlier p k before zero y lt e = let same : x ≡ y = cc in subst P same p
    earlier p k before (suc m) y lt e = before m y (omega (arith, lt)) e

pub all_or : {X : Type 0} (P : X → Type 0) → ((x : X) → Decided (P x)) → (xs : List X) → All P xs ⊎ ((k : ℕ) × FailsFirst P xs k)
all_or P f xs = all_or_where (λ x. Unit {0}) P (λ x q. f x) xs (λ k x lt. tt)

-- the same, with the first itself
pub first_or : {X : Type 0} (P : X → Type 0) → ((x : X) → Decided (P x)) → (xs : List X) → All P xs ⊎ ((x : X) × IsFirst (λ y. P y → ⊥) xs x)
first_or P f [] = inl (All-nil P)
first_or P f (x ∷ xs) = elim (f x) [
  | inr n ↦ inr (x, inl (refl, n))
  | inl p ↦ elim (first_or P f xs) [ inl all ↦ inl (All-cons P x xs p all) | inr later ↦ inr (later.0, inr ((λ n. n p), later.1)) ]
]

pub all_decided : {X : Type 0} (P : X → Type 0) → ((x : X) → Decided (P x)) → (xs : List X) → Decided (All P xs)
all_decided P f xs = elim (all_or P f xs) [ inl all ↦ inl all | inr one ↦ inr (λ all. one.1.fails (let at = one.1.at in All-at P xs one.0 one.1.x at all)) ]

-- the members with a property
pub kept : {X : Type 0} (P : X → Type 0) → ((x : X) → Decided (P x)) → (xs : List X) → (ys : List X) × ((y : X) → Contains ys y → Contains xs y × P y) × ((y : X) → Contains xs y → P y → Contains ys y)
kept P f [] = ([], (λ y c. absurd (Contains-nothing y c)), λ y c p. c)
kept P f (x ∷ xs) = let (ys, from, all) = kept P f xs in elim (f x) [
  | inl p ↦ (
    x ∷ ys,
    (λ y c. elim (Contains-cases x ys y c) [ inl e ↦ (joined x xs y (inl e), subst P (sym e) p) | inr later ↦ (Contains-later x xs y (from y later).0, (from y later).1) ]),
    λ y c q. joined x ys y (⊎_elim (λ e. inl e) (λ later. inr (all y later q)) (Contains-cases x xs y c)),
  )
  | inr n ↦ (
    ys,
    (λ y c. (Contains-later x xs y (from y c).0, (from y c).1)),
    λ y c q. ⊎_elim (λ e. absurd (n (subst P e q))) (λ later. all y later q) (Contains-cases x xs y c),
  )
]

-- ---- numbers

-- the least number below n with a property
pub below_or : (P : ℕ → Type 0) → ((k : ℕ) → Decided (P k)) → (n : ℕ) → ((k : ℕ) × (k < n) × P k × ((j : ℕ) → j < k → P j → ⊥)) ⊎ ((k : ℕ) → k < n → P k → ⊥)
below_or P f zero = inr (λ k lt p. absurd (omega (arith, lt)))
below_or P f (suc n) = elim (below_or P f n) [
  | inl t ↦ inl (t.0, omega (arith, t.1), t.2, t.3)
  | inr none ↦ elim (f n) [
    | inl p ↦ inl (n, omega arith, p, none)
    | inr not ↦ inr (λ k lt p. elim (lt_or k n) [ inl low ↦ none k low p | inr high ↦ not (let e : k ≡ n = omega (arith, lt, high) in subst P e p) ])
  ]
]

pub some_below : (P : ℕ → Type 0) → ((k : ℕ) → Decided (P k)) → (n : ℕ) → Decided ((k : ℕ) × (k < n) × P k)
some_below P f n = elim (below_or P f n) [ inl t ↦ inl (t.0, t.1, t.2) | inr none ↦ inr (λ h. none h.0 h.1 h.2) ]

-- ---- orders

module _ {X : Type 0} (cmp : X → X → Ordering) (o : IsTotalOrder cmp) (exact : IsAntisymmetric cmp) where
  pub equal_or : (x y : X) → Decided (x ≡ y)
  equal_or x y = go (cmp x y) refl
    where
      go : (r : Ordering) → cmp x y ≡ r → Decided (x ≡ y)
      go Equal e = inl (exact x y e)
      go r e = inr (λ h. let same : cmp x y ≡ Equal = subst (λ z. cmp x z ≡ Equal) h (tied_itself o x) in let wrong : r ≡ Equal = sym e ∙ same in cc)

  pub contains_or : (xs : List X) (x : X) → Decided (Contains xs x)
  contains_or [] x = inr (Contains-nothing x)
  contains_or (y ∷ xs) x = carried (joined y xs x) (Contains-cases y xs x) (either_or (equal_or x y) (contains_or xs x))

  by_recursion : (P : X → Type 0) (xs : List X) → ((x : X) → Contains xs x → P x) → AllByRecursion P xs
  by_recursion P xs f = recursion_from_All P xs (All-from_members P xs f)

  -- one more member in its place
  inserted : (x : X) (ys : List X) → IsStrictlySortedBy cmp ys → (zs : List X) × Lists cmp (λ z. (z ≡ x) ⊎ Contains ys z) zs
  unfolding IsStrictlySortedBy
  inserted x [] sorted = (x ∷ [], record { ascending = (tt, tt); each = Contains-cases x []; all = joined x [] })
  inserted x (y ∷ ys) sorted = go (cmp x y) refl (inserted x ys sorted.1)
    where
      behind : (z : X) → Contains ys z → cmp y z ≡ Less
      behind z c = All-contains (λ u. cmp y u ≡ Less) ys z (All-from_recursion (λ u. cmp y u ≡ Less) ys sorted.0) c

      go : (r : Ordering) → cmp x y ≡ r → (zs : List X) × Lists cmp (λ z. (z ≡ x) ⊎ Contains ys z) zs → (zs : List X) × Lists cmp (λ z. (z ≡ x) ⊎ Contains (y ∷ ys) z) zs
      go Less e t = (
        x ∷ y ∷ ys,
        record {
          ascending = ((e, by_recursion (λ z. cmp x z ≡ Less) ys (λ z c. o.trans x y z e (behind z c))), sorted);
          each = Contains-cases x (y ∷ ys);
          all = joined x (y ∷ ys);
        },
      )
      go Equal e t = (y ∷ ys, record { ascending = sorted; each = λ z c. inr c; all = λ z h. ⊎_elim (λ is. joined y ys z (inl (is ∙ exact x y e))) (λ c. c) h })
      go Greater e (zs, t) = (
        y ∷ zs,
        record {
          ascending = (
            by_recursion (λ z. cmp y z ≡ Less) zs (λ z c. ⊎_elim (λ same. subst (λ u. cmp y u ≡ Less) (sym same) (o.antisymm y x ∙ ap ordering_reverse e)) (behind z) (t.each z c)),
            t.ascending,
          );
          each = λ z c. elim (Contains-cases y zs z c) [
            | inl same ↦ inr (joined y ys z (inl same))
            | inr later ↦ ⊎_elim (λ is. inl is) (λ old. inr (Contains-later y ys z old)) (t.each z later)
          ];
          all = λ z h. elim h [
            | inl is ↦ Contains-later y zs z (t.all z (inl is))
            | inr c ↦ joined y zs z (⊎_elim (λ same. inl same) (λ later. inr (t.all z (inr later))) (Contains-cases y ys z c))
          ];
        },
      )

  -- the members of a list in order
  pub sorted : (xs : List X) → (ys : List X) × Lists cmp (Contains xs) ys
  unfolding IsStrictlySortedBy
  sorted [] = ([], record { ascending = tt; each = λ x c. c; all = λ x c. c })
  sorted (x ∷ xs) =
      let rest = sorted xs in
      let t = inserted x rest.0 rest.1.ascending in (
        t.0,
        record {
          ascending = t.1.ascending;
          each = λ z c. joined x xs z (⊎_elim (λ e. inl e) (λ old. inr (rest.1.each z old)) (t.1.each z c));
          all = λ z c. t.1.all z (⊎_elim (λ e. inl e) (λ later. inr (rest.1.all z later)) (Contains-cases x xs z c));
        },
      )

  pub record LeastIn (P : X → Type 0) (xs : List X) : Type 0 where
    pub x : X
    pub listed : Contains xs x
    pub has : P x
    pub least : (y : X) → Contains xs y → P y → (y ≡ x) ⊎ (cmp x y ≡ Less)

  -- the least of a list with a property: the first of these in order
  pub least_or : (P : X → Type 0) → ((x : X) → Decided (P x)) → (xs : List X) → LeastIn P xs ⊎ ((y : X) → Contains xs y → P y → ⊥)
  unfolding IsStrictlySortedBy
  least_or P f xs = let (ys, from, all) = kept P f xs in let (zs, t) = sorted ys in by_list ys from all zs t
    where
      by_list : (ys : List X) → ((y : X) → Contains ys y → Contains xs y × P y) → ((y : X) → Contains xs y → P y → Contains ys y)
          → (zs : List X) → Lists cmp (Contains ys) zs → LeastIn P xs ⊎ ((y : X) → Contains xs y → P y → ⊥)
      by_list ys from all [] t = inr (λ y c p. Contains-nothing y (t.all y (all y c p)))
      by_list ys from all (z ∷ zs) t =
          let here = from z (t.each z (Contains-front z zs)) in
          inl (record {
            x = z;
            listed = here.0;
            has = here.1;
            least = λ y c p. ⊎_elim (λ e. inl e) (λ later. inr (All-contains (λ u. cmp z u ≡ Less) zs y (All-from_recursion (λ u. cmp z u ≡ Less) zs t.ascending.0) later))
                (Contains-cases z zs y (t.all y (all y c p)));
          })
