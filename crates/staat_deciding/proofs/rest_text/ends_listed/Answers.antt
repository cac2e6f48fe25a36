use Rattle.std.proofs.Common.{◌≡◌, ◌∙◌, List, ℕ, ap, subst}
use Rattle.std.proofs.lemmas.Result.{IfOk-weaker}
use Rattle.staat_holds.specs.Partials.{partial_of, parts_in}
use Rattle.staat_text.specs.PlanTexts.{numbers_text, parts_listed}
use Rattle.staat_deciding.proofs.RestLines.{AreAdded, all_ends}
use Rattle.staat_deciding.proofs.rest_text.ends_listed.Goals as goal

pub returns : goal.returns
returns c =
    let plan = partial_of c.args.side.now in
    let added = c.push_ends.new.numbers.items in
    let numbers = c.each_once-numbers.result.items in
    let are = subst (λ (xs : List ℕ). AreAdded plan xs added) c.new-numbers.ensures.items c.in_ok-push_ends.ensures in
    let is = all_ends plan added numbers c.requires are c.each_once-numbers.ensures.ascending c.each_once-numbers.ensures.members in
    IfOk-weaker c.numbers_text.result _ (λ text. text.items ≡ parts_listed (parts_in plan))
    (λ _ lines. lines ∙ ap numbers_text (c.as_slice.ensures.value ∙ is))
    c.numbers_text.ensures
