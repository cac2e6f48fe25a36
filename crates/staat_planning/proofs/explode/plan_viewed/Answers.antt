use Rattle.staat_model.specs.Plans.{plan_of}
use Rattle.staat_input.specs.Causes.{HasCause}
use Rattle.staat_input.proofs.InputLemmas.{failed_with, then_failed, then_given}
use Rattle.staat_planning.specs.Exploding.{AreShifted, IsViewed}
use Rattle.staat_planning.proofs.explode.plan_viewed.Goals as goal

pub returns-in_err-shifts : goal.returns-in_err-shifts
returns-in_err-shifts c =
    let fault = c.in_err-shifts.field-0.0 in
    let found = c.from_residual.result in
    let is = c.from_residual.ensures.1 in
    record {
      viewed = then_failed (AreShifted c.args.sound.now (plan_of c.args.tree.now))
          (λ shifts. IsViewed c.args.solids.now shifts c.args.off) fault found c.in_err-shifts.ensures.shifted is;
      cause = λ shelf. failed_with (HasCause shelf) fault found (c.in_err-shifts.ensures.cause shelf) is;
    }

pub returns : goal.returns
returns c = record {
  viewed = then_given (AreShifted c.args.sound.now (plan_of c.args.tree.now))
      (λ shifts. IsViewed c.args.solids.now shifts c.args.off) c.in_ok-shifts.shifts c.viewed.result
      c.in_ok-shifts.ensures.shifted c.viewed.ensures.viewed;
  cause = c.viewed.ensures.cause;
}
