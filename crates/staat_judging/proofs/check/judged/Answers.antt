use Rattle.staat_fault.specs.declared.fault.Fault.TheVariants.{OutOfMemory}
use Rattle.staat_judging.specs.Causes.{HasCheckCause}
use Rattle.staat_judging.specs.Checking.{IsChecked}
use Rattle.staat_input.proofs.InputLemmas.{failed_with, memory_free, no_value}
use Rattle.staat_judging.proofs.FeedingLemmas.{memory_alone}
use Rattle.staat_judging.proofs.CertificateLemmas.{checked_answer}
use Rattle.staat_judging.proofs.check.judged.Goals as goal

pub returns-in_err-verdict : goal.returns-in_err-verdict
returns-in_err-verdict c =
    let found = c.from_residual.result in
    let is = c.from_residual.ensures.1 in
    record {
      status = no_value _ _ found is;
      checked = memory_free (IsChecked c.args.sound.now c.args.certificate.now) found is;
      cause = λ request shelf. failed_with (HasCheckCause request shelf) OutOfMemory found tt is;
    }

pub returns : goal.returns
returns c =
    let found = c.answer_of.result in
    let memory = c.answer_of.ensures.memory in
    record {
      status = c.answer_of.ensures.status;
      checked = checked_answer c.args.sound.now c.args.certificate.now c.in_ok-verdict.verdict found
          c.in_ok-verdict.ensures.verdict c.answer_of.ensures.is memory;
      cause = λ request shelf. memory_alone (HasCheckCause request shelf) found tt memory;
    }
