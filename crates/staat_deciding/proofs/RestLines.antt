-- The ends of a plan and the lines of its steps and groups, one more at a time.
use Rattle.std.proofs.Common.{◌≡◌, ◌∙◌, ◌⊎◌, ◌↔◌, inl, inr, ⊎_elim, ℕ, ◌<◌, List, [], ◌∷◌, ◌++◌, All, Contains, sym, ap, subst, append_assoc, append-nil}
use Rattle.std.specs.List.Sorted.{IsStrictlySortedBy}
use Rattle.std.specs.Ordering.{nat_cmp}
use Rattle.std.proofs.lemmas.List.Elements.{Contains-append_left, Contains-append_right, Contains-append_cases, Contains-push, Contains-push_cases}
use Rattle.staat_vec.specs.declared.vector.V3.{V3}
use Rattle.staat_vec.proofs.Unique.{Contains-nothing}
use Rattle.staat_model.specs.Outcomes.{stuck}
use Rattle.staat_model.specs.Sets.{Has}
use Rattle.staat_model.proofs.Members.{All-from_members}
use Rattle.staat_model.specs.SetLists.{set_of}
use Rattle.staat_model.proofs.SetListings.{has-set_of}
use Rattle.staat_model.proofs.SetMembers.{has-single, has-union}
use Rattle.staat_holds.specs.Partials.{PartialPlan, alone, parted, parts_in, together}
use Rattle.staat_text.specs.PlanTexts.{move_line, part_numbers, plan_text}
use Rattle.staat_text.proofs.PartNumbers.{numbers_are}
use Rattle.staat_text.proofs.PlanLines.{three_written}
use Rattle.staat_deciding.specs.RestTexts.{HasSmallParts, step_lines, stuck_lines}

-- what is new in a list are the parts at the ends
abbrev pub AreAdded : PartialPlan → List ℕ → List ℕ → Type 0
AreAdded plan old new = (p : ℕ) → Contains new p ↔ (Contains old p ⊎ Has (parts_in plan) p)

pub part_added : (plan : PartialPlan) (n : ℕ) (old new : List ℕ) → plan ≡ alone n → new ≡ old ++ n ∷ [] → AreAdded plan old new
part_added plan n old new is e p = (
  λ c. ⊎_elim {C = Contains old p ⊎ Has (parts_in plan) p} (λ in_old. inl in_old)
      (λ same. inr (subst (λ (t : PartialPlan). Has (parts_in t) p) (sym is) ((has-single n p).1 (sym same))))
      (Contains-push_cases old n p (subst (λ l. Contains l p) e c)),
  λ h. subst (λ l. Contains l p) (sym e) (⊎_elim {C = Contains (old ++ n ∷ []) p} (λ in_old. Contains-append_left old (n ∷ []) p in_old)
      (λ at. subst (Contains (old ++ n ∷ [])) (sym ((has-single n p).0 (subst (λ (t : PartialPlan). Has (parts_in t) p) is at))) (Contains-push old n))
      h),
)

pub members_added : (plan : PartialPlan) (members old new : List ℕ) → plan ≡ together (set_of members) → new ≡ old ++ members → AreAdded plan old new
members_added plan members old new is e p = (
  λ c. ⊎_elim {C = Contains old p ⊎ Has (parts_in plan) p} (λ in_old. inl in_old)
      (λ in_group. inr (subst (λ (t : PartialPlan). Has (parts_in t) p) (sym is) ((has-set_of members p).1 in_group)))
      (Contains-append_cases old members p (subst (λ l. Contains l p) e c)),
  λ h. subst (λ l. Contains l p) (sym e) (⊎_elim {C = Contains (old ++ members) p} (λ in_old. Contains-append_left old members p in_old)
      (λ at. Contains-append_right old members p ((has-set_of members p).0 (subst (λ (t : PartialPlan). Has (parts_in t) p) is at)))
      h),
)

pub sides_added : (plan moved rest m r : PartialPlan) (d : V3) (old one two : List ℕ) → plan ≡ parted d moved rest → m ≡ moved → r ≡ rest → AreAdded m old one → AreAdded r one two → AreAdded plan old two
sides_added plan moved rest m r d old one two is em er a b p = (
  λ c. ⊎_elim {C = Contains old p ⊎ Has (parts_in plan) p}
      (λ in_one. ⊎_elim {C = Contains old p ⊎ Has (parts_in plan) p} (λ in_old. inl in_old) (λ h. inr (whole (inl h))) ((a p).0 in_one))
      (λ h. inr (whole (inr h)))
      ((b p).0 c),
  λ h. (b p).1 (⊎_elim {C = Contains one p ⊎ Has (parts_in r) p} (λ in_old. inl ((a p).1 (inl in_old)))
      (λ at. ⊎_elim {C = Contains one p ⊎ Has (parts_in r) p} (λ l. inl ((a p).1 (inr l))) (λ l. inr l) (side at))
      h),
)
  where
    same : plan ≡ parted d m r
    same = is ∙ (λ i. parted d (sym em i) (sym er i))

    whole : Has (parts_in m) p ⊎ Has (parts_in r) p → Has (parts_in plan) p
    whole h = subst (λ (t : PartialPlan). Has (parts_in t) p) (sym same) ((has-union (parts_in m) (parts_in r) p).1 h)

    side : Has (parts_in plan) p → Has (parts_in m) p ⊎ Has (parts_in r) p
    side h = (has-union (parts_in m) (parts_in r) p).0 (subst (λ (t : PartialPlan). Has (parts_in t) p) same h)

pub all_ends : (plan : PartialPlan) (added numbers : List ℕ) → HasSmallParts plan → AreAdded plan [] added → IsStrictlySortedBy nat_cmp numbers → ((p : ℕ) → Contains numbers p ↔ Contains added p) → numbers ≡ part_numbers (parts_in plan)
all_ends plan added numbers small are sorted same = numbers_are (parts_in plan) numbers sorted
    (λ p. (
      λ c. ⊎_elim {C = Has (parts_in plan) p} (λ in_none. absurd (Contains-nothing p in_none)) (λ h. h) ((are p).0 ((same p).0 c)),
      λ h. (same p).1 ((are p).1 (inr h)),
    ))
    small

-- a group's members are parts that a product can have
pub group_small : (plan : PartialPlan) (members listed : List ℕ) → plan ≡ together (set_of members) → listed ≡ members → HasSmallParts plan → All (λ p. p < 1024) listed
group_small plan members listed is same small = All-from_members (λ p. p < 1024) listed
    (λ p c. small p (subst (λ (t : PartialPlan). Has (parts_in t) p) (sym is) ((has-set_of members p).1 (subst (λ l. Contains l p) same c))))

-- ---- lines

pub no_lines : (plan : PartialPlan) (text : List ℕ) → stuck_lines plan ≡ [] → text ≡ text ++ stuck_lines plan
no_lines plan text none = sym (ap (λ l. text ++ l) none ∙ append-nil text)

pub steps_written : (plan moved rest m1 r1 m2 r2 : PartialPlan) (d : V3) (old one two three line : List ℕ) → plan ≡ parted d moved rest → m1 ≡ moved → r1 ≡ rest → m2 ≡ moved → r2 ≡ rest
    → line ≡ move_line (parts_in m1) d (parts_in r1) [] → one ≡ old ++ line → two ≡ one ++ step_lines m2 → three ≡ two ++ step_lines r2 → three ≡ old ++ step_lines plan
steps_written plan moved rest m1 r1 m2 r2 d old one two three line is em er e2 f2 l a b c =
    let ml : List ℕ = step_lines moved in
    let rl : List ℕ = step_lines rest in
    let own : List ℕ = move_line (parts_in moved) d (parts_in rest) [] in
    let a2 : one ≡ old ++ own = a ∙ ap (λ t. old ++ t) (l ∙ (λ i. move_line (parts_in (em i)) d (parts_in (er i)) [])) in
    let b2 : two ≡ one ++ ml = b ∙ (λ i. one ++ step_lines (e2 i)) in
    let c2 : three ≡ two ++ rl = c ∙ (λ i. two ++ step_lines (f2 i)) in
    three_written old one two three own ml rl a2 b2 c2 ∙ ap (λ (p : PartialPlan). old ++ step_lines p) (sym is)

pub stuck_written : (plan moved rest m r : PartialPlan) (d : V3) (old one two : List ℕ) → plan ≡ parted d moved rest → m ≡ moved → r ≡ rest → one ≡ old ++ stuck_lines m → two ≡ one ++ stuck_lines r → two ≡ old ++ stuck_lines plan
stuck_written plan moved rest m r d old one two is em er a b =
    let a2 : one ≡ old ++ stuck_lines moved = a ∙ (λ i. old ++ stuck_lines (em i)) in
    let b2 : two ≡ one ++ stuck_lines rest = b ∙ (λ i. one ++ stuck_lines (er i)) in
    b2 ∙ ap (λ t. t ++ stuck_lines rest) a2 ∙ append_assoc old (stuck_lines moved) (stuck_lines rest) ∙ ap (λ (p : PartialPlan). old ++ stuck_lines p) (sym is)
