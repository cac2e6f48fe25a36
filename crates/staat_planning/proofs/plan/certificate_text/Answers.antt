use Rattle.std.proofs.Common.{Some, subst}
use Rattle.staat_cert.specs.Writing.{IsTextAnswer}
use Rattle.staat_fault.specs.declared.fault.Fault.TheVariants.{OutOfMemory}
use Rattle.staat_model.specs.Outcomes.{finding_of}
use Rattle.staat_input.specs.Causes.{HasCause}
use Rattle.staat_input.proofs.InputLemmas.{failed_with, memory_free, no_value}
use Rattle.staat_planning.specs.Planning.{IsPrinted}
use Rattle.staat_planning.proofs.plan.certificate_text.Goals as goal

pub returns-in-Ok-clause-certificate : goal.returns-in-Ok-clause-certificate
returns-in-Ok-clause-certificate c =
    let certificate = c.in_ok-certificate.certificate in
    (certificate, c.in_ok-certificate.ensures.certificate, subst (IsTextAnswer certificate) c.in-Ok.is c.cert_text.ensures)

pub returns-in_err-certificate : goal.returns-in_err-certificate
returns-in_err-certificate c =
    let found = c.from_residual.result in
    let is = c.from_residual.ensures.1 in
    record {
      written = memory_free (IsPrinted c.args.sound.now (finding_of c.args.outcome.now) (Some c.args.version)) found is;
      certificate = no_value _ _ found is;
      cause = λ shelf. failed_with (HasCause shelf) OutOfMemory found tt is;
    }
