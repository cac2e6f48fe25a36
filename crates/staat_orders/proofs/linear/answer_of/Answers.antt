use Rattle.std.proofs.Common.{◌≡◌, refl}
use Rattle.staat_fault.specs.declared.fault.Fault.TheVariants.{OutOfMemory}
use Rattle.staat_input.proofs.InputLemmas.{failed_with, no_value}
use Rattle.staat_orders.proofs.linear.answer_of.Goals as goal

pub returns-in_err-text : goal.returns-in_err-text
returns-in_err-text c =
    let found = c.from_residual.result in
    let is = c.from_residual.ensures.1 in
    record {
      status = no_value _ _ found is;
      is = no_value _ _ found is;
      memory = failed_with (λ fault. fault ≡ OutOfMemory) OutOfMemory found refl is;
    }
