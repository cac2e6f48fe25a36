-- A plan that may end in sets: how many steps it has, and the plan that it is where no end is a set.
use Rattle.std.proofs.Common.{◌≡◌, ◌∙◌, inl, inr, ℕ, ◌+◌, ◌<◌, ◌≤◌, List, [], ◌∷◌, ◌++◌, arith, refl, sym, ap, ap₂, append-nil, subst}
use Rattle.std.specs.Prelude.{codes, drop, pos, zero, suc}
use Rattle.std.specs.FinSet as set
use Rattle.staat_vec.specs.declared.vector.V3.{V3}
use Rattle.staat_model.specs.declared.assembly.Part.{Part}
use Rattle.staat_model.specs.declared.set.PartSet.{PartSet}
use Rattle.staat_model.specs.declared.tree.Kind.{Kind}
use Rattle.staat_model.specs.Lines.{spaced}
use Rattle.staat_model.specs.Outcomes.{planned}
use Rattle.staat_model.specs.Plans.{IsGood, Plan, leaf, parts_of, split}
use Rattle.staat_model.specs.Removal.{IsFree}
use Rattle.staat_model.specs.Sets.{AreApart, Has, single}
use Rattle.staat_model.proofs.SetMembers.{has-union}
use Rattle.staat_model.proofs.SetSizes.{len-single, len_below}
use Rattle.staat_holds.specs.Partials.{HasSmallDirections, HasSmallSteps, HasTogether, IsGoodPartial, PartialPlan, alone, parted, parts_in, together}
use Rattle.staat_text.specs.PlanTexts.{move_line, move_lines, plan_text, steps_of}
use Rattle.staat_text.proofs.PlanSteps.{len_within}
use Rattle.staat_deciding.specs.RestTexts.{HasSmallParts, rest_text, step_lines, steps_in, stuck_lines}

-- ---- steps

pub parts_are : (parts : List Part) (plan : PartialPlan) (w : PartSet) → IsGoodPartial parts w plan → w ≡ parts_in plan
parts_are parts (alone p) w good = good
parts_are parts (together s) w good = good.0
parts_are parts (parted d m r) w good = good.0

steps_fewer : (parts : List Part) (plan : PartialPlan) (w : PartSet) → IsGoodPartial parts w plan → steps_in plan + 1 ≤ set.len (parts_in plan)
steps_fewer parts (alone p) w good = let e : set.len (single p) ≡ 1 = len-single p in omega (arith, e)
steps_fewer parts (together s) w good = let two = good.1.two in omega (arith, two)
steps_fewer parts (parted d m r) w good =
    let a : steps_in m + 1 ≤ set.len (parts_in m) = steps_fewer parts m (parts_in m) good.3 in
    let b : steps_in r + 1 ≤ set.len (parts_in r) = steps_fewer parts r (parts_in r) good.4 in
    let c = len_within (set.len (parts_in m)) (parts_in m) (parts_in r) (omega arith) good.1 in
    omega (arith, a, b, c)

pub steps_small : (parts : List Part) (plan : PartialPlan) (w : PartSet) → IsGoodPartial parts w plan → HasSmallParts plan → steps_in plan < 1024
steps_small parts plan w good small =
    let a = steps_fewer parts plan w good in
    let b = len_below 1024 (parts_in plan) small in
    omega (arith, a, b)

-- ---- at a step

module _ (tree : PartialPlan) (d : V3) (m r : PartialPlan) (is : tree ≡ parted d m r) where
  pub moved_fewer : steps_in m < steps_in tree
  moved_fewer = let e : steps_in tree ≡ 1 + steps_in m + steps_in r = ap steps_in is in omega (arith, e)

  pub rest_fewer : steps_in r < steps_in tree
  rest_fewer = let e : steps_in tree ≡ 1 + steps_in m + steps_in r = ap steps_in is in omega (arith, e)

  pub moved_small : HasSmallParts tree → HasSmallParts m
  moved_small h p in_m = h p (subst (λ (t : PartialPlan). Has (parts_in t) p) (sym is) ((has-union (parts_in m) (parts_in r) p).1 (inl in_m)))

  pub rest_small : HasSmallParts tree → HasSmallParts r
  rest_small h p in_r = h p (subst (λ (t : PartialPlan). Has (parts_in t) p) (sym is) ((has-union (parts_in m) (parts_in r) p).1 (inr in_r)))

-- ---- where no end is a set

abbrev pub HasNoSet : PartialPlan → Type 0
HasNoSet plan = HasTogether plan → ⊥

abbrev pub plan_in : PartialPlan → Plan
plan_in (alone p) = leaf p
plan_in (together w) = leaf 0
plan_in (parted d m r) = split d (plan_in m) (plan_in r)

same_parts : (plan : PartialPlan) → HasNoSet plan → parts_of (plan_in plan) ≡ parts_in plan
same_parts (alone p) none = refl
same_parts (together w) none = absurd (none tt)
same_parts (parted d m r) none = ap₂ set.union (same_parts m (λ h. none (inl h))) (same_parts r (λ h. none (inr h)))

pub good_plan : (parts : List Part) (plan : PartialPlan) (w : PartSet) → HasNoSet plan → IsGoodPartial parts w plan → IsGood parts w (plan_in plan)
good_plan parts (alone p) w none good = good
good_plan parts (together s) w none good = absurd (none tt)
good_plan parts (parted d m r) w none good =
    let em : parts_of (plan_in m) ≡ parts_in m = same_parts m (λ h. none (inl h)) in
    let er : parts_of (plan_in r) ≡ parts_in r = same_parts r (λ h. none (inr h)) in (
      good.0 ∙ sym (ap₂ set.union em er),
      subst (λ (s : PartSet). AreApart s (parts_of (plan_in r))) (sym em) (subst (λ (s : PartSet). AreApart (parts_in m) s) (sym er) good.1),
      subst (λ (s : PartSet). IsFree parts s (parts_of (plan_in r)) d) (sym em) (subst (λ (s : PartSet). IsFree parts (parts_in m) s d) (sym er) good.2),
      subst (λ (s : PartSet). IsGood parts s (plan_in m)) (sym em) (good_plan parts m (parts_in m) (λ h. none (inl h)) good.3),
      subst (λ (s : PartSet). IsGood parts s (plan_in r)) (sym er) (good_plan parts r (parts_in r) (λ h. none (inr h)) good.4),
    )

pub small_directions : (plan : PartialPlan) → HasNoSet plan → HasSmallSteps plan → HasSmallDirections (plan_in plan)
small_directions (alone p) none small = tt
small_directions (together w) none small = tt
small_directions (parted d m r) none small = (small.0, small_directions m (λ h. none (inl h)) small.1, small_directions r (λ h. none (inr h)) small.2)

drop_none : (n : ℕ) → ◌≡◌ {A = List Kind} (drop n []) []
drop_none zero = refl
drop_none (suc n) = refl

same_count : (plan : PartialPlan) → HasNoSet plan → steps_in plan ≡ steps_of (plan_in plan)
same_count (alone p) none = refl
same_count (together w) none = absurd (none tt)
same_count (parted d m r) none = ap₂ (λ a b. 1 + a + b) (same_count m (λ h. none (inl h))) (same_count r (λ h. none (inr h)))

same_lines : (plan : PartialPlan) → HasNoSet plan → step_lines plan ≡ move_lines (plan_in plan) []
same_lines (alone p) none = refl
same_lines (together w) none = absurd (none tt)
same_lines (parted d m r) none =
    let em : parts_of (plan_in m) ≡ parts_in m = same_parts m (λ h. none (inl h)) in
    let er : parts_of (plan_in r) ≡ parts_in r = same_parts r (λ h. none (inr h)) in
    let a : step_lines m ≡ move_lines (plan_in m) (drop 1 []) = same_lines m (λ h. none (inl h)) ∙ ap (move_lines (plan_in m)) (sym (drop_none 1)) in
    let b : step_lines r ≡ move_lines (plan_in r) (drop (1 + steps_of (plan_in m)) []) = same_lines r (λ h. none (inr h)) ∙ ap (move_lines (plan_in r)) (sym (drop_none (1 + steps_of (plan_in m)))) in
    (λ i. move_line (sym em i) d (sym er i) [] ++ a i ++ b i)

no_stuck : (plan : PartialPlan) → HasNoSet plan → stuck_lines plan ≡ []
no_stuck (alone p) none = refl
no_stuck (together w) none = absurd (none tt)
no_stuck (parted d m r) none = ap₂ (λ (a b : List ℕ). a ++ b) (no_stuck m (λ h. none (inl h))) (no_stuck r (λ h. none (inr h)))

pub same_text : (plan : PartialPlan) → HasNoSet plan → rest_text plan ≡ plan_text (planned (plan_in plan) [])
same_text plan none =
    let lines : step_lines plan ≡ move_lines (plan_in plan) [] = same_lines plan none in
    let nothing : stuck_lines plan ≡ [] = no_stuck plan none in
    let count : steps_in plan ≡ steps_of (plan_in plan) = same_count plan none in
    let written : rest_text plan ≡ move_lines (plan_in plan) [] ++ [] ++ codes "moves" ++ spaced (pos (steps_of (plan_in plan)) ∷ []) = (λ i. lines i ++ nothing i ++ codes "moves" ++ spaced (pos (count i) ∷ [])) in
    written ∙ ap (λ (l : List ℕ). l ++ codes "moves" ++ spaced (pos (steps_of (plan_in plan)) ∷ [])) (append-nil (move_lines (plan_in plan) []))
