use Rattle.std.proofs.Common.{◌≡◌, ◌∙◌, ◌++◌, ◌⊎◌, ◌↔◌, ℕ, List, Contains, ap, subst}
use Rattle.std.proofs.lemmas.Result.{IfOk-weaker}
use Rattle.staat_model.specs.Plans.{parts_of, plan_of}
use Rattle.staat_model.specs.Sets.{Has}
use Rattle.staat_text.specs.PlanTexts.{numbers_text, parts_listed}
use Rattle.staat_text.proofs.PlanLines.{all_leaves}
use Rattle.staat_text.proofs.plans.push_side.Goals as goal

pub returns : goal.returns
returns c =
    let plan = plan_of c.args.side.now in
    let added = c.push_leaves.new.numbers.items in
    let numbers = c.each_once-numbers.result.items in
    let are = subst (λ (xs : List ℕ). (p : ℕ) → Contains added p ↔ (Contains xs p ⊎ Has (parts_of plan) p)) c.new-numbers.ensures.items c.in_ok-push_leaves.ensures in
    let is = all_leaves plan added numbers c.requires are c.each_once-numbers.ensures.ascending c.each_once-numbers.ensures.members in
    let old = c.args.text.now.items in
    IfOk-weaker c.push_numbers.result _ (λ _. c.push_numbers.new.text.items ≡ old ++ parts_listed (parts_of plan))
    (λ _ adds. adds ∙ ap (λ l. old ++ numbers_text l) (c.as_slice.ensures.value ∙ is))
    c.push_numbers.ensures
