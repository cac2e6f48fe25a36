use Rattle.std.proofs.Common.{false}
use Rattle.staat_input.proofs.AnswerLemmas.{memory_out}
use Rattle.staat_deciding.proofs.decide.certificate_answer.Goals as goal

pub returns-in_err-plan-in-Apart : goal.returns-in_err-plan-in-Apart
returns-in_err-plan-in-Apart c = memory_out c.from_residual.ensures.1

pub returns-in_ok-plan-in-Apart : goal.returns-in_ok-plan-in-Apart
returns-in_ok-plan-in-Apart c =
    let out = c.plan_answer.ensures in
    let valid = c.in_ok-plan-in-Apart.ensures.valid in
    record { status = out.status; found = out.decided false c.args.product.now valid; cause = out.cause }

pub returns-in_err-refusal-in-Held : goal.returns-in_err-refusal-in-Held
returns-in_err-refusal-in-Held c = memory_out c.from_residual-in_err-refusal-in-Held.ensures.1

pub returns-in_ok-refusal-in-Held : goal.returns-in_ok-refusal-in-Held
returns-in_ok-refusal-in-Held c =
    let out = c.refusal_answer.ensures in
    let shown = c.in_ok-refusal-in-Held.ensures in
    record { status = out.status; found = out.decided false c.args.product.now shown.valid shown.kind; cause = out.cause }
