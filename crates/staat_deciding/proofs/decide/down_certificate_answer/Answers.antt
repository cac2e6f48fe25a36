use Rattle.std.proofs.Common.{true}
use Rattle.staat_input.proofs.AnswerLemmas.{memory_out}
use Rattle.staat_deciding.proofs.decide.down_certificate_answer.Goals as goal

pub returns-in_err-refusal : goal.returns-in_err-refusal
returns-in_err-refusal c = memory_out c.from_residual.ensures.1

pub returns-in_ok-refusal : goal.returns-in_ok-refusal
returns-in_ok-refusal c =
    let out = c.refusal_answer.ensures in
    let shown = c.in_ok-refusal.ensures in
    record { status = out.status; found = out.decided true c.args.product.now shown.valid shown.kind; cause = out.cause }

pub returns-in_err-plan : goal.returns-in_err-plan
returns-in_err-plan c = memory_out c.from_residual-in_err-plan.ensures.1

pub returns-in_ok-plan : goal.returns-in_ok-plan
returns-in_ok-plan c =
    let out = c.plan_answer.ensures in
    let valid = c.in_ok-plan.ensures.valid in
    record { status = out.status; found = out.decided true c.args.product.now valid; cause = out.cause }
