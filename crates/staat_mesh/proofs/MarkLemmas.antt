-- Marks of vertices, one corner and one face at a time.
use Rattle.std.proofs.Common.{◌≡◌, ◌↔◌, ◌<◌, ◌≤◌, ◌+◌, ◌⊎◌, ℕ, zero, suc, Bool, true, false, List, [], ◌∷◌, ◌++◌, length, take, get_or, set, inl, inr, refl, sym, subst, ◌∙◌, arith, Any, Contains, ⊎_elim, get_or-set_other, get_or-set_same}
use Rattle.std.specs.Prelude.{replicate}
use Rattle.std.proofs.lemmas.Bool.{cases_eq}
use Rattle.std.proofs.lemmas.List.{take_all, take_more}
use Rattle.std.proofs.lemmas.List.Elements.{Contains-append_left, Contains-push, Contains-push_cases}
use Rattle.staat_mesh.specs.MarkedVertices.{IsMarked, MarksCorners}

-- ---- one more element

pub Contains-more : {X : Type 0} (xs : List X) (i : ℕ) (d x : X) → i < length xs → Contains (take (i + 1) xs) x ↔ (Contains (take i xs) x ⊎ (get_or xs i d ≡ x))
Contains-more xs i d x lt =
    let e = take_more xs i d lt in (
      λ h. Contains-push_cases (take i xs) (get_or xs i d) x (subst (λ ys. Contains ys x) e h),
      λ h. subst (λ ys. Contains ys x) (sym e) (⊎_elim (λ g. Contains-append_left (take i xs) (get_or xs i d ∷ []) x g) (λ g. subst (Contains (take i xs ++ get_or xs i d ∷ [])) g (Contains-push (take i xs) (get_or xs i d))) h),
    )

pub Any-more : {X : Type 0} (P : X → Type 0) (xs : List X) (i : ℕ) (d : X) → i < length xs → Any P (take (i + 1) xs) ↔ (Any P (take i xs) ⊎ P (get_or xs i d))
Any-more P xs i d lt = (
  λ h. ⊎_elim (λ g. inl (g.0, h.1, g.1, g.2, h.4)) (λ e. inr (subst P (sym e) h.4)) ((Contains-more xs i d h.1 lt).0 (h.0, h.2, h.3)),
  λ h. ⊎_elim
      (λ g. let at = (Contains-more xs i d g.1 lt).1 (inl (g.0, g.2, g.3)) in (at.0, g.1, at.1, at.2, g.4))
      (λ p. let at = (Contains-more xs i d (get_or xs i d) lt).1 (inr refl) in (at.0, get_or xs i d, at.1, at.2, p)) h,
)

-- ---- a face

marked-set : (marks : List Bool) (v w : ℕ) → v < length marks → IsMarked (set marks v true) w ↔ (IsMarked marks w ⊎ (v ≡ w))
marked-set marks v w lt =
    ⊎_elim {C = IsMarked (set marks v true) w ↔ (IsMarked marks w ⊎ (v ≡ w))}
    (λ e. (λ _. inr (sym e), λ _. subst (λ u. get_or (set marks v true) u false ≡ true) (sym e) (get_or-set_same marks v true false lt)))
    (λ ne. let other : get_or (set marks v true) w false ≡ get_or marks w false = get_or-set_other marks v w true false ne in (
      λ h. inl (sym other ∙ h),
      λ h. ⊎_elim (λ g. other ∙ g) (λ e. absurd (ne (sym e))) h,
    ))
    (cases_eq w v)

-- the marks of the first corners of a face, beside those that were there
abbrev pub MarksFront : List Bool → List ℕ → ℕ → List Bool → Type 0
MarksFront old face i marks = (w : ℕ) → IsMarked marks w ↔ (IsMarked old w ⊎ Contains (take i face) w)

pub front_none : (old : List Bool) (face : List ℕ) → MarksFront old face 0 old
front_none old face w = (inl, λ h. ⊎_elim (λ g. g) (λ g. absurd (omega (arith, g.1))) h)

pub front_more : (old : List Bool) (face : List ℕ) (i v : ℕ) (marks : List Bool) → i < length face → v ≡ get_or face i 0 → v < length marks → MarksFront old face i marks → MarksFront old face (i + 1) (set marks v true)
front_more old face i v marks lt e within so_far w =
    let now = marked-set marks v w within in
    let more = Contains-more face i 0 w lt in (
      λ h. ⊎_elim (λ g. ⊎_elim inl (λ k. inr (more.1 (inl k))) ((so_far w).0 g)) (λ g. inr (more.1 (inr (sym e ∙ g)))) (now.0 h),
      λ h. ⊎_elim (λ g. now.1 (inl ((so_far w).1 (inl g)))) (λ g. ⊎_elim (λ k. now.1 (inl ((so_far w).1 (inr k)))) (λ k. now.1 (inr (e ∙ k))) (more.0 g)) h,
    )

pub front_all : (old : List Bool) (face : List ℕ) (i : ℕ) (marks : List Bool) → length face ≤ i → MarksFront old face i marks → (w : ℕ) → IsMarked marks w ↔ (IsMarked old w ⊎ Contains face w)
front_all old face i marks le so_far w = subst (λ xs. IsMarked marks w ↔ (IsMarked old w ⊎ Contains xs w)) (take_all i face le) (so_far w)

-- ---- all faces

pub corners_none : (n : ℕ) (faces : List (List ℕ)) → MarksCorners (take 0 faces) (replicate n false)
corners_none n faces w = (λ h. absurd (unmarked n w h), λ h. absurd (omega (arith, h.2)))
  where
    unmarked : (n w : ℕ) → IsMarked (replicate n false) w → ⊥
    unmarked zero w h = cc
    unmarked (suc n) zero h = cc
    unmarked (suc n) (suc w) h = unmarked n w h

pub corners_more : (faces : List (List ℕ)) (i : ℕ) (old marks : List Bool) → i < length faces → ((w : ℕ) → IsMarked marks w ↔ (IsMarked old w ⊎ Contains (get_or faces i []) w)) → MarksCorners (take i faces) old → MarksCorners (take (i + 1) faces) marks
corners_more faces i old marks lt now so_far w =
    let more = Any-more (λ face. Contains face w) faces i [] lt in (
      λ h. ⊎_elim (λ g. more.1 (inl ((so_far w).0 g))) (λ g. more.1 (inr g)) ((now w).0 h),
      λ h. ⊎_elim (λ g. (now w).1 (inl ((so_far w).1 g))) (λ g. (now w).1 (inr g)) (more.0 h),
    )
