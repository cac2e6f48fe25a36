-- One more element of a list that is gone through.
use Rattle.std.proofs.Common.{◌≡◌, ◌⊎◌, ◌↔◌, ℕ, ◌+◌, ◌<◌, List, [], ◌∷◌, ◌++◌, length, get_or, take, inl, inr, ⊎_elim, sym, subst, Contains}
use Rattle.std.proofs.lemmas.List.{take_more}
use Rattle.std.proofs.lemmas.List.Elements.{Contains-append_left, Contains-push, Contains-push_cases}

-- some member of the list has P
abbrev pub Some' : {X : Type 0} → (X → Type 0) → List X → Type 0
Some' {X} P xs = (x : X) × Contains xs x × P x

pub contains_push : {X : Type 0} (xs : List X) (x y : X) → Contains (xs ++ x ∷ []) y ↔ (Contains xs y ⊎ (x ≡ y))
contains_push xs x y = (
  λ h. Contains-push_cases xs x y h,
  λ h. ⊎_elim {C = Contains (xs ++ x ∷ []) y} (λ g. Contains-append_left xs (x ∷ []) y g) (λ e. subst (Contains (xs ++ x ∷ [])) e (Contains-push xs x)) h,
)

pub some_push : {X : Type 0} (P : X → Type 0) (xs : List X) (x : X) → Some' P (xs ++ x ∷ []) ↔ (Some' P xs ⊎ P x)
some_push P xs x = (
  λ h. ⊎_elim {C = Some' P xs ⊎ P x} (λ c. inl (h.0, c, h.2)) (λ e. inr (subst P (sym e) h.2)) ((contains_push xs x h.0).0 h.1),
  λ h. ⊎_elim {C = Some' P (xs ++ x ∷ [])} (λ g. (g.0, Contains-append_left xs (x ∷ []) g.0 g.1, g.2)) (λ p. (x, Contains-push xs x, p)) h,
)

pub some_at : {X : Type 0} (P : X → Type 0) (xs : List X) (i : ℕ) (d : X) → i < length xs → Some' P (take (i + 1) xs) ↔ (Some' P (take i xs) ⊎ P (get_or xs i d))
some_at P xs i d lt =
    let e = take_more xs i d lt in
    let same = some_push P (take i xs) (get_or xs i d) in (
      λ h. same.0 (subst (Some' P) e h),
      λ h. subst (Some' P) (sym e) (same.1 h),
    )

pub some_more : {X : Type 0} (P : X → Type 0) (xs : List X) (i : ℕ) (x : X) → i < length xs → x ≡ get_or xs i x → Some' P (take (i + 1) xs) ↔ (Some' P (take i xs) ⊎ P x)
some_more P xs i x lt is = subst (λ y. Some' P (take (i + 1) xs) ↔ (Some' P (take i xs) ⊎ P y)) (sym is) (some_at P xs i x lt)
