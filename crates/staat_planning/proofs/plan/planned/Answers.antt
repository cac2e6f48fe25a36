use Rattle.std.proofs.Common.{refl}
use Rattle.staat_model.specs.Outcomes.{finding_of}
use Rattle.staat_input.specs.Counting.{AreCounted, few}
use Rattle.staat_input.proofs.AnswerLemmas.{fault_out, then_out}
use Rattle.staat_planning.specs.Planning.{IsPlanned}
use Rattle.staat_planning.proofs.PlanLemmas.{planned_found}
use Rattle.staat_planning.proofs.plan.planned.Goals as goal

pub returns-in_err-outcome : goal.returns-in_err-outcome
returns-in_err-outcome c =
    let request = c.args.request.now in
    let parts = c.args.sound.now in
    fault_out (AreCounted parts request.planes) (λ planes. IsPlanned parts request.robust request.certificate)
    c.from_residual.result c.in_err-outcome.field-0.0 c.in_err-outcome.ensures.refused c.in_err-outcome.ensures.cause
    c.from_residual.ensures.1

pub returns : goal.returns
returns c =
    let request = c.args.request.now in
    let parts = c.args.sound.now in
    let counted = c.in_ok-outcome.ensures.few in
    then_out (AreCounted parts request.planes) (λ planes. IsPlanned parts request.robust request.certificate)
    c.answer_of.result counted.planes (few counted.planes counted.planes_are counted.few refl) (record {
      status = c.answer_of.ensures.status;
      found = planned_found parts request.robust (finding_of c.in_ok-outcome.outcome) request.certificate
          c.answer_of.result c.in_ok-outcome.ensures.outcome c.answer_of.ensures.written;
      cause = c.answer_of.ensures.cause;
    })
