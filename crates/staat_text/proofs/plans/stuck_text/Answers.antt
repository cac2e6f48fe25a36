use Rattle.std.proofs.Common.{◌∙◌, ◌++◌, ap, codes}
use Rattle.staat_text.specs.PlanTexts.{numbers_text}
use Rattle.staat_text.proofs.PartNumbers.{numbers_of_list}
use Rattle.staat_text.proofs.plans.stuck_text.Goals as goal

pub returns : goal.returns
returns c =
    c.from_vec.ensures ∙ c.in_ok-text.ensures
    ∙ ap (λ n. codes "stuck" ++ numbers_text n ++ codes "\n") (numbers_of_list c.args.members.now c.requires.ascending c.requires.small)
