use Rattle.staat_fault.specs.declared.fault.Fault.TheVariants.{OutOfMemory}
use Rattle.staat_model.specs.Outcomes.{finding_of}
use Rattle.staat_input.specs.Causes.{HasCause}
use Rattle.staat_input.proofs.InputLemmas.{failed_with, memory_free}
use Rattle.staat_planning.specs.Planning.{IsPrinted}
use Rattle.staat_planning.proofs.plan.text_of.Goals as goal

pub returns-in_err-text-in-None : goal.returns-in_err-text-in-None
returns-in_err-text-in-None c =
    let found = c.from_residual.result in
    let is = c.from_residual.ensures.1 in
    record {
      written = memory_free (IsPrinted c.args.sound.now (finding_of c.args.outcome.now) c.args.certificate) found is;
      cause = λ shelf. failed_with (HasCause shelf) OutOfMemory found tt is;
    }
