use Rattle.std.proofs.Common.{refl}
use Rattle.staat_model.specs.Outcomes.{finding_of}
use Rattle.staat_input.specs.Causes.{HasCause}
use Rattle.staat_input.specs.Counting.{AreCounted, few}
use Rattle.staat_input.proofs.InputLemmas.{failed_with, no_value, then_failed, then_given}
use Rattle.staat_planning.specs.Exploding.{IsExploded}
use Rattle.staat_planning.proofs.ExplodeLemmas.{exploded_found}
use Rattle.staat_planning.proofs.explode.exploded.Goals as goal

pub returns-in_err-outcome : goal.returns-in_err-outcome
returns-in_err-outcome c = record {
  status = no_value _ _ c.from_residual.result c.from_residual.ensures.1;
  exploded = λ files named listed same.
      let request = c.args.request.now in
      let parts = c.args.sound.now in
      then_failed (AreCounted parts request.planes) (λ planes. IsExploded files request parts)
      c.in_err-outcome.field-0.0 c.from_residual.result c.in_err-outcome.ensures.refused c.from_residual.ensures.1;
  cause = λ shelf.
      failed_with (HasCause shelf) c.in_err-outcome.field-0.0 c.from_residual.result (c.in_err-outcome.ensures.cause shelf) c.from_residual.ensures.1;
}

pub returns : goal.returns
returns c = record {
  status = c.shown.ensures.status;
  exploded = λ files named listed same.
      let request = c.args.request.now in
      let parts = c.args.sound.now in
      let counted = c.in_ok-outcome.ensures.few in
      then_given (AreCounted parts request.planes) (λ planes. IsExploded files request parts)
      counted.planes c.shown.result (few counted.planes counted.planes_are counted.few refl)
      (exploded_found files request parts c.args.solids.now named (finding_of c.in_ok-outcome.outcome) c.shown.result listed c.in_ok-outcome.ensures.outcome same c.shown.ensures.shown);
  cause = λ shelf. c.shown.ensures.cause shelf;
}
