-- What holds after a step where it held before, or P holds: so lists and graphs grow.
use Rattle.std.proofs.Common.{◌≡◌, ◌⊎◌, ◌↔◌, inl, inr, ⊎_elim, ℕ, zero, suc, ◌+◌, ◌-◌, ◌<◌, refl, sym, ap, subst}
use Rattle.std.proofs.Common.{◌∙◌, arith, List, [], ◌∷◌, ◌++◌, length, get_or, take, All, Any}
use Rattle.std.specs.Prelude.{Some, slice_set}
use Rattle.std.proofs.lemmas.List.{take_more}
use Rattle.std.proofs.lemmas.List.Elements.{All-cons, All-head, All-pop, All-push, All-tail}
use Rattle.std.proofs.lemmas.List.Elements.{Contains-append_left, Contains-push, Contains-push_cases}
use Rattle.staat_vec.specs.declared.vector.Sign.{Sign}
use Rattle.staat_vec.proofs.ListLaws.{any_default}
use Rattle.staat_vec.proofs.Naturals.{lt_one_more_cases}
use Rattle.staat_planes.proofs.Gaining.{adds_both, adds_same}
use Rattle.staat_cells.specs.declared.half_spaces.HalfSpace.{HalfSpace}
use Rattle.staat_cells.specs.HalfSpaces.{AreAmong, AreInside, IsInHalfSpace}

-- ---- what holds exactly where something else does

pub itself : {A : Type 0} → A ↔ A
itself = (λ a. a, λ a. a)

pub through : {A B C : Type 0} → A ↔ B → B ↔ C → A ↔ C
through f g = (λ a. g.0 (f.0 a), λ c. f.1 (g.1 c))

pub back : {A B : Type 0} → A ↔ B → B ↔ A
back f = (f.1, f.0)

pub with_both : {A B C D : Type 0} → A ↔ B → C ↔ D → (A × C) ↔ (B × D)
with_both f g = (λ p. (f.0 p.0, g.0 p.1), λ p. (f.1 p.0, g.1 p.1))

-- ---- steps

pub grown_same : {O N P Q : Type 0} → N ↔ (O ⊎ P) → P ↔ Q → N ↔ (O ⊎ Q)
grown_same n same = adds_same n same.0 same.1

-- where nothing held before
pub grown_first : {O N P : Type 0} → N ↔ (O ⊎ P) → (O → ⊥) → N ↔ P
grown_first {O} {N} {P} n none = (λ x. ⊎_elim {C = P} (λ o. absurd (none o)) (λ p. p) (n.0 x), λ p. n.1 (inr p))

pub grown_both : {O M N P Q R : Type 0} → M ↔ (O ⊎ P) → N ↔ (M ⊎ Q) → R ↔ (P ⊎ Q) → N ↔ (O ⊎ R)
grown_both m n r = grown_same (adds_both m n) (back r)

grown_apart : {O M N P Q : Type 0} → M ↔ (O ⊎ P) → N ↔ (O ⊎ (P ⊎ Q)) → N ↔ (M ⊎ Q)
grown_apart m n = (
  λ h. elim (n.0 h) [
    | inl o ↦ inl (m.1 (inl o))
    | inr both ↦ elim both [ inl p ↦ inl (m.1 (inr p)) | inr q ↦ inr q ]
  ],
  λ h. n.1 (elim h [
    | inl g ↦ elim (m.0 g) [ inl o ↦ inl o | inr p ↦ inr (inl p) ]
    | inr q ↦ inr (inr q)
  ]),
)

-- ---- by what holds of the numbers below k

-- F holds of some number below k
abbrev pub Below : (ℕ → Type 0) → ℕ → Type 0
Below F k = (j : ℕ) × (j < k) × F j

pub none_below : (F : ℕ → Type 0) → Below F 0 → ⊥
none_below F (j, lt, h) = omega (arith, lt)

pub grown_more : {O M N : Type 0} (F : ℕ → Type 0) (k : ℕ) → M ↔ (O ⊎ Below F k) → N ↔ (M ⊎ F k)
    → N ↔ (O ⊎ Below F (k + 1))
grown_more F k m n = grown_both m n (from, to)
  where
    from : Below F (k + 1) → Below F k ⊎ F k
    from (j, lt, h) = ⊎_elim {C = Below F k ⊎ F k} (λ l. inl (j, l, h)) (λ e. inr (subst F e h)) (lt_one_more_cases j k lt)

    to : Below F k ⊎ F k → Below F (k + 1)
    to (inl (j, lt, h)) = (j, omega (arith, lt), h)
    to (inr h) = (k, omega arith, h)

-- ---- members of a list that is changed

pub turned : {N O P : Type 0} → N ↔ (O ⊎ P) → N ↔ (P ⊎ O)
turned n = (λ h. elim (n.0 h) [ inl o ↦ inr o | inr p ↦ inl p ], λ h. n.1 (elim h [ inl p ↦ inr p | inr o ↦ inl o ]))

module _ {X : Type 0} (P : X → Type 0) where
  pub any_pushed : (xs new : List X) (x : X) → new ≡ xs ++ x ∷ [] → Any P new ↔ (Any P xs ⊎ P x)
  any_pushed xs new x is = subst (λ l. Any P l ↔ (Any P xs ⊎ P x)) (sym is) (from, to)
    where
      from : Any P (xs ++ x ∷ []) → Any P xs ⊎ P x
      from (k, y, lt, e, p) = ⊎_elim {C = Any P xs ⊎ P x} (λ c. inl (c.0, y, c.1, c.2, p))
          (λ same. inr (subst P (sym same) p))
          (Contains-push_cases xs x y (k, lt, e))

      to : Any P xs ⊎ P x → Any P (xs ++ x ∷ [])
      to (inl (k, y, lt, e, p)) = let c = Contains-append_left xs (x ∷ []) y (k, lt, e) in (c.0, y, c.1, c.2, p)
      to (inr p) = let c = Contains-push xs x in (c.0, x, c.1, c.2, p)

  pub any_first : (x : X) (xs : List X) → Any P (x ∷ xs) ↔ (Any P xs ⊎ P x)
  any_first x xs = (from, to)
    where
      from : Any P (x ∷ xs) → Any P xs ⊎ P x
      from (zero, y, lt, e, p) = inr (subst P (sym e) p)
      from (suc k, y, lt, e, p) = inl (k, y, omega (arith, lt), e, p)

      to : Any P xs ⊎ P x → Any P (x ∷ xs)
      to (inl (k, y, lt, e, p)) = (suc k, y, omega (arith, lt), e, p)
      to (inr p) = (0, x, omega arith, refl, p)

  pub all_pushed : (xs new : List X) (x : X) → new ≡ xs ++ x ∷ [] → All P new ↔ (All P xs × P x)
  all_pushed xs new x is = subst (λ l. All P l ↔ (All P xs × P x)) (sym is)
      (All-pop P (xs ++ x ∷ []) xs (Some x) refl, λ h. All-push P xs x h.0 h.1)

  taken : (xs : List X) (k : ℕ) (x : X) → k < length xs → x ≡ get_or xs k x → take (k + 1) xs ≡ take k xs ++ x ∷ []
  taken xs k x lt at = take_more xs k x lt ∙ ap (λ y. take k xs ++ y ∷ []) (sym at)

  pub all_more : (xs : List X) (k : ℕ) (x : X) → k < length xs → x ≡ get_or xs k x
      → All P (take (k + 1) xs) ↔ (All P (take k xs) × P x)
  all_more xs k x lt at = all_pushed (take k xs) (take (k + 1) xs) x (taken xs k x lt at)

  pub any_more : (xs : List X) (k : ℕ) (x : X) → k < length xs → x ≡ get_or xs k x
      → Any P (take (k + 1) xs) ↔ (Any P (take k xs) ⊎ P x)
  any_more xs k x lt at = any_pushed (take k xs) (take (k + 1) xs) x (taken xs k x lt at)

  -- the member d gives way to one with P exactly where d has P and Q holds
  pub all_set : (xs : List X) (k : ℕ) (d y : X) (Q : Type 0) → k < length xs → d ≡ get_or xs k d → P y ↔ (P d × Q)
      → All P (slice_set xs k y) ↔ (All P xs × Q)
  all_set [] k d y Q lt at own = absurd (omega (arith, lt))
  all_set (x ∷ xs) zero d y Q lt at own =
      let here = subst (λ z. P y ↔ (P z × Q)) at own in (
        λ h. let both = here.0 (All-head P y xs h) in (All-cons P x xs both.0 (All-tail P y xs h), both.1),
        λ h. All-cons P y xs (here.1 (All-head P x xs h.0, h.1)) (All-tail P x xs h.0),
      )
  all_set (x ∷ xs) (suc k) d y Q lt at own =
      let rest = all_set xs k d y Q (omega (arith, lt)) at own in (
        λ h. let both = rest.0 (All-tail P x (slice_set xs k y) h) in
            (All-cons P x xs (All-head P x (slice_set xs k y) h) both.0, both.1),
        λ h. All-cons P x (slice_set xs k y) (All-head P x xs h.0) (rest.1 (All-tail P x xs h.0, h.1)),
      )

  -- or to one with P exactly where d has P or Q holds
  pub any_set : (xs : List X) (k : ℕ) (d y : X) (Q : Type 0) → k < length xs → d ≡ get_or xs k d → P y ↔ (P d ⊎ Q)
      → Any P (slice_set xs k y) ↔ (Any P xs ⊎ Q)
  any_set [] k d y Q lt at own = absurd (omega (arith, lt))
  any_set (x ∷ xs) zero d y Q lt at own =
      grown_apart (any_first x xs) (grown_same (any_first y xs) (subst (λ z. P y ↔ (P z ⊎ Q)) at own))
  any_set (x ∷ xs) (suc k) d y Q lt at own = grown_apart (turned (any_first x xs))
      (grown_same (turned (any_first x (slice_set xs k y))) (any_set xs k d y Q (omega (arith, lt)) at own))

-- ---- by what holds of the first members of a list

pub grown_take : {X O M N : Type 0} (P : X → Type 0) (xs : List X) (k : ℕ) (x : X) → k < length xs → x ≡ get_or xs k x
    → M ↔ (O ⊎ Any P (take k xs)) → N ↔ (M ⊎ P x) → N ↔ (O ⊎ Any P (take (k + 1) xs))
grown_take P xs k x lt at m n = grown_both m n (any_more P xs k x lt at)

-- ---- cones

inside_wider : (signs : List Sign) (wider cone : List HalfSpace) → AreAmong wider cone → AreInside signs cone
    → AreInside signs wider
inside_wider signs wider cone among inside k d lt =
    let (place, small, at) = among k d lt in
    subst (IsInHalfSpace signs) at (inside place (get_or wider k d) small)

pub cone_left_out : (signs : List Sign) (cones : List (List HalfSpace)) (cone : List HalfSpace)
    → Any (λ wider. AreAmong wider cone) cones
    → Any (AreInside signs) cones ↔ (Any (AreInside signs) cones ⊎ AreInside signs cone)
cone_left_out signs cones cone (k, wider, lt, e, among) = (
  λ h. inl h,
  ⊎_elim {C = Any (AreInside signs) cones} (λ h. h)
      (λ i. (k, wider, lt, e, inside_wider signs wider cone among i)),
)

-- from the last cone on
pub from_last : (P : List HalfSpace → Type 0) (cones : List (List HalfSpace)) (k : ℕ) → k ≡ length cones
    → Below (λ j. P (get_or cones (length cones - 1 - j) [])) k ↔ Any P cones
from_last P cones k all = (
  λ (j, lt, h). let i = length cones - 1 - j in
      (i, get_or cones i [], omega (arith, lt, all), any_default cones i (get_or cones i []) [] (omega (arith, lt, all)), h),
  λ (i, cone, lt, at, h). let j = length cones - 1 - i in
      let back : i ≡ length cones - 1 - j = omega (arith, lt) in
      (j, omega (arith, lt, all), subst P (sym at ∙ any_default cones i cone [] lt ∙ ap (λ m. get_or cones m []) back) h),
)
