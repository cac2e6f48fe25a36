use Rattle.std.proofs.Common.{Ok, ap, subst, sym}
use Rattle.staat_fault.specs.declared.fault.Fault.TheVariants.{OutOfMemory}
use Rattle.staat_input.specs.Causes.{HasCause}
use Rattle.staat_input.proofs.InputLemmas.{failed_with, memory_free}
use Rattle.staat_planning.specs.Exploding.{IsViewed, vectors}
use Rattle.staat_planning.proofs.explode.viewed.Goals as goal

pub returns-clause-viewed : goal.returns-clause-viewed
returns-clause-viewed c =
    subst (λ off. IsViewed c.args.solids.now c.args.shifts.now off (Ok c.in_ok-text.text)) (sym c.if-off.false) (vectors (ap Ok c.in_ok-text.ensures))

pub returns-in_err-text : goal.returns-in_err-text
returns-in_err-text c =
    let found = c.from_residual.result in
    let is = c.from_residual.ensures.1 in
    record {
      viewed = memory_free (IsViewed c.args.solids.now c.args.shifts.now c.args.off) found is;
      cause = λ shelf. failed_with (HasCause shelf) OutOfMemory found tt is;
    }
