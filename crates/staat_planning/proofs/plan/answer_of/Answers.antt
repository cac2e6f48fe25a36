use Rattle.std.proofs.Common.{◌≡◌, Ok, ap, inr, sym}
use Rattle.staat_model.specs.Outcomes.{finding_of}
use Rattle.staat_input.specs.Causes.{HasCause}
use Rattle.staat_input.proofs.InputLemmas.{failed_with, no_value, then_failed}
use Rattle.staat_planning.specs.Planning.{IsPrinted, outcome_answer}
use Rattle.staat_planning.proofs.plan.answer_of.Goals as goal

pub returns-in_err-text : goal.returns-in_err-text
returns-in_err-text c =
    let finding = finding_of c.args.outcome.now in
    let fault = c.in_err-text.field-0.0 in
    let found = c.from_residual.result in
    let is = c.from_residual.ensures.1 in
    record {
      status = no_value _ _ found is;
      written = then_failed (IsPrinted c.args.sound.now finding c.args.certificate)
          (λ text found. found ≡ Ok (outcome_answer finding text)) fault found c.in_err-text.ensures.written is;
      cause = λ shelf. failed_with (HasCause shelf) fault found (c.in_err-text.ensures.cause shelf) is;
    }

pub returns-in-Plan-clause-written : goal.returns-in-Plan-clause-written
returns-in-Plan-clause-written c = inr (
  c.in_ok-text.text,
  c.in_ok-text.ensures.written,
  ap (λ outcome. Ok (outcome_answer (finding_of outcome) c.in_ok-text.text)) (sym c.in-Plan.is),
)

pub returns-in-Stuck-clause-written : goal.returns-in-Stuck-clause-written
returns-in-Stuck-clause-written c = inr (
  c.in_ok-text.text,
  c.in_ok-text.ensures.written,
  ap (λ outcome. Ok (outcome_answer (finding_of outcome) c.in_ok-text.text)) (sym c.in-Stuck.is),
)
