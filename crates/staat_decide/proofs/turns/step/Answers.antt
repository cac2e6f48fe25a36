use Rattle.std.proofs.Common.{◌∙◌, ap}
use Rattle.staat_model.specs.Plans.{Plan, plan_of, split}
use Rattle.staat_decide.proofs.turns.step.Goals as goal

pub returns : goal.returns
returns c =
    ap (λ (p : Plan). split c.args.d p (plan_of c.in_ok-rest.rest.value)) (ap plan_of c.in_ok-moved.ensures.ok)
    ∙ ap (split c.args.d (plan_of c.args.moved)) (ap plan_of c.in_ok-rest.ensures.ok)
