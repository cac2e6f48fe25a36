use Rattle.std.proofs.Common.{ap, arith, length}
use Rattle.staat_model.specs.Outcomes.{finding_of}
use Rattle.staat_input.specs.Causes.{HasCause}
use Rattle.staat_input.proofs.AnswerLemmas.{memory_out}
use Rattle.staat_input.proofs.InputLemmas.{failed_with, no_value}
use Rattle.staat_planning.proofs.DrillLemmas.{drill_answer, drill_failed}
use Rattle.staat_planning.proofs.drill.drilled.Goals as goal

pub returns-in_err-certificate : goal.returns-in_err-certificate
returns-in_err-certificate c =
    let fault = c.in_err-certificate.field-0.0 in
    let found = c.from_residual.result in
    let is = c.from_residual.ensures.1 in
    record {
      status = no_value _ _ found is;
      found = drill_failed c.args.name c.args.sound.now (finding_of c.args.outcome.now) fault found
          c.requires.outcome c.in_err-certificate.ensures.written is;
      cause = λ shelf. failed_with (HasCause shelf) fault found (c.in_err-certificate.ensures.cause shelf) is;
    }

pub judged-requires : goal.judged-requires
judged-requires c =
    let (certificate, is, written) = c.in_ok-certificate.ensures.certificate in
    (certificate, written)

pub returns : goal.returns
returns c =
    let (certificate, is, written) = c.in_ok-certificate.ensures.certificate in
    let drilled =
    drill_answer c.args.name c.args.sound.now (finding_of c.args.outcome.now) certificate c.in_ok-verdict.verdict c.in_ok-certificate.certificate c.in_ok-text.text _
    c.requires.outcome is written (c.in_ok-verdict.ensures certificate written) (ap length c.as_slice.ensures) c.in_ok-text.ensures in
    record { status = omega arith; found = drilled; cause = λ shelf. tt }

pub returns-in_err-verdict : goal.returns-in_err-verdict
returns-in_err-verdict c = memory_out c.from_residual-in_err-verdict.ensures.1

pub returns-in_err-text : goal.returns-in_err-text
returns-in_err-text c = memory_out c.from_residual-in_err-text.ensures.1
