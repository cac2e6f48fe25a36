use Rattle.staat_input.specs.declared.limits.TheConstants.Limits.{ASSEMBLY}
use Rattle.staat_input.proofs.AnswerLemmas.{input_stops, parts_out}
use Rattle.staat_planning.specs.Planning.{IsCountedPlan}
use Rattle.staat_planning.proofs.plan.plan.Goals as goal

pub returns-in_err-sound : goal.returns-in_err-sound
returns-in_err-sound g c =
    input_stops ASSEMBLY c.args.request.now.asked c.from_residual.result (λ files. IsCountedPlan c.args.request.now) c.in_err-sound.field-0.0
    c.in_err-sound.ensures c.from_residual.ensures.1

pub returns : goal.returns
returns g c =
    parts_out ASSEMBLY c.args.request.now.asked c.planned.result (IsCountedPlan c.args.request.now) c.in_ok-sound.sound c.in_ok-sound.ensures c.planned.ensures
