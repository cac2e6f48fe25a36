use Rattle.std.proofs.Common.{refl}
use Rattle.staat_limits.specs.declared.limits.TheConstants.{MOST_PLANES}
use Rattle.staat_input.specs.Counting.{AreCounted, few}
use Rattle.staat_input.proofs.AnswerLemmas.{fault_out, then_out}
use Rattle.staat_planning.specs.Drills.{IsDrilled}
use Rattle.staat_planning.proofs.drill.counted.Goals as goal

pub returns-in_err-outcome : goal.returns-in_err-outcome
returns-in_err-outcome c =
    fault_out (AreCounted c.args.sound.now MOST_PLANES) (λ planes. IsDrilled c.args.name c.args.sound.now)
    c.from_residual.result c.in_err-outcome.field-0.0 c.in_err-outcome.ensures.refused c.in_err-outcome.ensures.cause
    c.from_residual.ensures.1

pub returns : goal.returns
returns c =
    let counted = c.in_ok-outcome.ensures.few in
    then_out (AreCounted c.args.sound.now MOST_PLANES) (λ planes. IsDrilled c.args.name c.args.sound.now) c.drilled.result
    counted.planes (few counted.planes counted.planes_are counted.few refl) c.drilled.ensures
