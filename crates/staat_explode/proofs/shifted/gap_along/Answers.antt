use Rattle.std.proofs.Common.{◌≡◌, arith, false, pos}
use Rattle.std.specs.Prelude.{int_lt}
use Rattle.staat_vec.proofs.Bounds.{wide}
use Rattle.staat_explode.proofs.shifted.gap_along.Goals as goal

pub returns-else-step-gt0-clause-value : goal.returns-else-step-gt0-clause-value
returns-else-step-gt0-clause-value c =
    let down : int_lt (pos 0) c.args.step ≡ false = grind (arith, wide, c.if-step-gt0.false) in
    rw down (omega (arith, wide, c.extreme-else-step-gt0.ensures, c.extreme-else-step-gt0-2.ensures))
