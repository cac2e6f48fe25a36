use Rattle.std.proofs.Common.{Err, Ok, subst}
use Rattle.staat_fault.specs.declared.fault.Fault.TheVariants.{OutOfMemory}
use Rattle.staat_input.specs.Assembling.{IsTested}
use Rattle.staat_input.specs.Causes.{HasCause}
use Rattle.staat_input.specs.Work.{Follows}
use Rattle.staat_input.proofs.InputLemmas.{failed_with, memory_free, no_value, then_failed, then_given}
use Rattle.staat_planning.specs.Drills.{DrillWork, IsCountedDrill, parts_of_product}
use Rattle.staat_planning.proofs.drill.drill.Goals as goal

pub returns-in_err-assembly : goal.returns-in_err-assembly
returns-in_err-assembly c =
    let found = c.from_residual.result in
    let is = c.from_residual.ensures.1 in
    record {
      status = no_value _ _ found is;
      found = λ files. memory_free (DrillWork c.args.name files) found is;
      cause = λ shelf. failed_with (HasCause shelf) OutOfMemory found tt is;
    }

pub returns-in_err-sound : goal.returns-in_err-sound
returns-in_err-sound c =
    let product = c.args.name in
    let fault = c.in_err-sound.field-0.0 in
    let found = c.from_residual-in_err-sound.result in
    let is = c.from_residual-in_err-sound.ensures.1 in
    record {
      status = no_value _ _ found is;
      found = λ files. then_failed (IsTested (parts_of_product product)) (IsCountedDrill product) fault found
          (subst (λ ps. Follows (IsTested ps) (Err fault)) c.in_ok-assembly.ensures c.in_err-sound.ensures.found) is;
      cause = λ shelf. failed_with (HasCause shelf) fault found (c.in_err-sound.ensures.cause shelf) is;
    }

pub returns : goal.returns
returns c =
    let product = c.args.name in
    let tested = subst (λ ps. IsTested ps (Ok c.in_ok-sound.sound)) c.in_ok-assembly.ensures c.in_ok-sound.ensures.found in
    record {
      status = c.counted.ensures.status;
      found = λ files. then_given (IsTested (parts_of_product product)) (IsCountedDrill product) c.in_ok-sound.sound
          c.counted.result tested c.counted.ensures.found;
      cause = c.counted.ensures.cause;
    }
