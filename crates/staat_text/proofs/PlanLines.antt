-- The leaves of a tree and the lines of steps, one more at a time.
use Rattle.std.proofs.Common.{◌≡◌, ◌∙◌, ◌⊎◌, ◌↔◌, inl, inr, ⊎_elim, ℕ, ◌+◌, List, [], ◌∷◌, ◌++◌, Contains, sym, ap, subst, append_assoc}
use Rattle.std.specs.Prelude.{drop, IfOk, Result, Ok, Err}
use Rattle.std.specs.List.Sorted.{IsStrictlySortedBy}
use Rattle.std.specs.Ordering.{nat_cmp}
use Rattle.std.specs.declared.alloc.AllocError.{AllocError}
use Rattle.std.proofs.lemmas.List.Elements.{Contains-append_left, Contains-push, Contains-push_cases}
use Rattle.staat_vec.specs.declared.vector.V3.{V3}
use Rattle.staat_vec.proofs.Unique.{Contains-nothing}
use Rattle.staat_model.specs.declared.tree.Tree.{Tree}
use Rattle.staat_model.specs.declared.tree.Kind.{Kind}
use Rattle.staat_model.specs.Plans.{Plan, leaf, parts_of, plan_of, split}
use Rattle.staat_model.specs.Sets.{Has}
use Rattle.staat_model.proofs.SetMembers.{has-single, has-union}
use Rattle.staat_text.specs.PlanTexts.{HasLeaves, move_line, move_lines, part_numbers, steps_of}
use Rattle.staat_text.proofs.PartNumbers.{numbers_are}

-- the line of a step, then those of the moved side's, then those of the rest's
pub three_written : (old one two three line a b : List ℕ) → one ≡ old ++ line → two ≡ one ++ a → three ≡ two ++ b → three ≡ old ++ (line ++ a ++ b)
three_written old one two three line a b e f g = g ∙ ap (λ t. t ++ b) f ∙ ap (λ t. (t ++ a) ++ b) e ∙ ap (λ t. t ++ b) (append_assoc old line a) ∙ append_assoc old (line ++ a) b

pub split_written : (tree : Tree) (d : V3) (moved rest : Tree) → plan_of tree ≡ split d (plan_of moved) (plan_of rest) → (marks : List Kind) (old one two three : List ℕ) (result : Result (Unit {0}) AllocError)
    → (line : List ℕ) (m1 r1 m2 r2 : Tree) (ms rs : List Kind)
    → m1 ≡ moved → r1 ≡ rest → m2 ≡ moved → r2 ≡ rest → ms ≡ drop 1 marks → rs ≡ drop (1 + steps_of (plan_of moved)) marks
    → line ≡ move_line (parts_of (plan_of m1)) d (parts_of (plan_of r1)) marks → one ≡ old ++ line → two ≡ one ++ move_lines (plan_of m2) ms → IfOk result (λ _. three ≡ two ++ move_lines (plan_of r2) rs)
    → IfOk result (λ _. three ≡ old ++ move_lines (plan_of tree) marks)
split_written tree d moved rest is marks old one two three (Err e) line m1 r1 m2 r2 ms rs em er e2 f2 dm dr l a b c = tt
split_written tree d moved rest is marks old one two three (Ok u) line m1 r1 m2 r2 ms rs em er e2 f2 dm dr l a b c =
    let ml : List ℕ = move_lines (plan_of moved) (drop 1 marks) in
    let rl : List ℕ = move_lines (plan_of rest) (drop (1 + steps_of (plan_of moved)) marks) in
    let own : List ℕ = move_line (parts_of (plan_of moved)) d (parts_of (plan_of rest)) marks in
    let b2 : two ≡ one ++ ml = b ∙ (λ i. one ++ move_lines (plan_of (e2 i)) (dm i)) in
    let c2 : three ≡ two ++ rl = c ∙ (λ i. two ++ move_lines (plan_of (f2 i)) (dr i)) in
    let a2 : one ≡ old ++ own = a ∙ ap (λ t. old ++ t) (l ∙ (λ i. move_line (parts_of (plan_of (em i))) d (parts_of (plan_of (er i))) marks)) in
    three_written old one two three own ml rl a2 b2 c2 ∙ ap (λ (p : Plan). old ++ move_lines p marks) (sym is)

-- ---- leaves

module _ (tree : Tree) (old new : List ℕ) where
  -- what is new in a list are the parts at the leaves
  abbrev pub AreAdded : Type 0
  AreAdded = (p : ℕ) → Contains new p ↔ (Contains old p ⊎ Has (parts_of (plan_of tree)) p)

pub leaf_added : (tree : Tree) (n : ℕ) (old new : List ℕ) → plan_of tree ≡ leaf n → new ≡ old ++ n ∷ [] → AreAdded tree old new
leaf_added tree n old new is e p = (
  λ c. ⊎_elim {C = Contains old p ⊎ Has (parts_of (plan_of tree)) p} (λ in_old. inl in_old)
      (λ same. inr (subst (λ (t : Plan). Has (parts_of t) p) (sym is) ((has-single n p).1 (sym same))))
      (Contains-push_cases old n p (subst (λ l. Contains l p) e c)),
  λ h. subst (λ l. Contains l p) (sym e) (⊎_elim {C = Contains (old ++ n ∷ []) p} (λ in_old. Contains-append_left old (n ∷ []) p in_old)
      (λ at. subst (Contains (old ++ n ∷ [])) (sym ((has-single n p).0 (subst (λ (t : Plan). Has (parts_of t) p) is at))) (Contains-push old n))
      h),
)

pub sides_added : (tree moved rest m r : Tree) (d : V3) (old one two : List ℕ) → plan_of tree ≡ split d (plan_of moved) (plan_of rest) → m ≡ moved → r ≡ rest → AreAdded m old one → AreAdded r one two → AreAdded tree old two
sides_added tree moved rest m r d old one two is em er a b p = (
  λ c. ⊎_elim {C = Contains old p ⊎ Has (parts_of (plan_of tree)) p}
      (λ in_one. ⊎_elim {C = Contains old p ⊎ Has (parts_of (plan_of tree)) p} (λ in_old. inl in_old) (λ h. inr (whole (inl h))) ((a p).0 in_one))
      (λ h. inr (whole (inr h)))
      ((b p).0 c),
  λ h. (b p).1 (⊎_elim {C = Contains one p ⊎ Has (parts_of (plan_of r)) p} (λ in_old. inl ((a p).1 (inl in_old)))
      (λ at. ⊎_elim {C = Contains one p ⊎ Has (parts_of (plan_of r)) p} (λ l. inl ((a p).1 (inr l))) (λ l. inr l) (side at))
      h),
)
  where
    same : plan_of tree ≡ split d (plan_of m) (plan_of r)
    same = is ∙ (λ i. split d (plan_of (sym em i)) (plan_of (sym er i)))

    whole : Has (parts_of (plan_of m)) p ⊎ Has (parts_of (plan_of r)) p → Has (parts_of (plan_of tree)) p
    whole h = subst (λ (t : Plan). Has (parts_of t) p) (sym same) ((has-union (parts_of (plan_of m)) (parts_of (plan_of r)) p).1 h)

    side : Has (parts_of (plan_of tree)) p → Has (parts_of (plan_of m)) p ⊎ Has (parts_of (plan_of r)) p
    side h = (has-union (parts_of (plan_of m)) (parts_of (plan_of r)) p).0 (subst (λ (t : Plan). Has (parts_of t) p) same h)

pub all_leaves : (plan : Plan) (added numbers : List ℕ) → HasLeaves plan → ((p : ℕ) → Contains added p ↔ (Contains [] p ⊎ Has (parts_of plan) p)) → IsStrictlySortedBy nat_cmp numbers → ((p : ℕ) → Contains numbers p ↔ Contains added p) → numbers ≡ part_numbers (parts_of plan)
all_leaves plan added numbers leaves are sorted same = numbers_are (parts_of plan) numbers sorted
    (λ p. (
      λ c. ⊎_elim {C = Has (parts_of plan) p} (λ in_none. absurd (Contains-nothing p in_none)) (λ h. h) ((are p).0 ((same p).0 c)),
      λ h. (same p).1 ((are p).1 (inr h)),
    ))
    leaves.small
