use Rattle.std.proofs.Common.{◌≡◌, Ok, subst, sym}
use Rattle.staat_model.specs.Outcomes.{finding_of, planned}
use Rattle.staat_model.specs.Plans.{plan_of}
use Rattle.staat_planning.specs.Exploding.{IsPlanViewed, IsOutcomeViewed}
use Rattle.staat_planning.specs.Planning.{outcome_answer}
use Rattle.staat_fault.specs.declared.fault.Fault.TheVariants.{OutOfMemory}
use Rattle.staat_input.specs.Causes.{HasCause}
use Rattle.staat_input.specs.Work.{Follows}
use Rattle.staat_input.proofs.InputLemmas.{failed_with, memory_free, no_value, then_failed}
use Rattle.staat_planning.proofs.explode.shown.Goals as goal

pub returns-in_err-text-in-Plan : goal.returns-in_err-text-in-Plan
returns-in_err-text-in-Plan c = record {
  status = no_value _ _ c.from_residual-in_err-text-in-Plan.result c.from_residual-in_err-text-in-Plan.ensures.1;
  cause = λ shelf. failed_with (HasCause shelf) c.in_err-text-in-Plan.field-0.0 c.from_residual-in_err-text-in-Plan.result (c.in_err-text-in-Plan.ensures.cause shelf) c.from_residual-in_err-text-in-Plan.ensures.1;
  shown = let parts = c.args.sound.now in
      let plan = plan_of c.in-Plan.tree in
      subst (λ outcome. Follows (IsOutcomeViewed parts c.args.solids.now c.args.off (finding_of outcome)) c.from_residual-in_err-text-in-Plan.result) (sym c.in-Plan.is)
      (then_failed (IsPlanViewed parts c.args.solids.now c.args.off plan) (λ text found. found ≡ Ok (outcome_answer (planned plan c.in-Plan.marks) text))
      c.in_err-text-in-Plan.field-0.0 c.from_residual-in_err-text-in-Plan.result c.in_err-text-in-Plan.ensures.viewed c.from_residual-in_err-text-in-Plan.ensures.1);
}

pub returns-in_err-text-in-Stuck : goal.returns-in_err-text-in-Stuck
returns-in_err-text-in-Stuck c =
    let found = c.from_residual.result in
    let is = c.from_residual.ensures.1 in
    record {
      status = no_value _ _ found is;
      shown = memory_free (IsOutcomeViewed c.args.sound.now c.args.solids.now c.args.off (finding_of c.args.outcome.now))
          found is;
      cause = λ shelf. failed_with (HasCause shelf) OutOfMemory found tt is;
    }
