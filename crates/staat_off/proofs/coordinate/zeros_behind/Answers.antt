use Rattle.std.proofs.Common.{length, arith}
use Rattle.std.specs.Str.Parse.{digits_value}
use Rattle.staat_off.proofs.Decisions.{higher}
use Rattle.staat_off.proofs.coordinate.zeros_behind.Goals as goal

pub returns-else-right-left : goal.returns-else-right-left
returns-else-right-left c =
    let n = c.args.numeral in
    let y = higher n.is_down (length n.fraction.now) c.args.zeros (digits_value 10 n.exponent.now) c.args.digits c.number_up_to-exponent.result c.number_up_to-exponent.ensures c.requires.zeros (omega (arith, c.requires.numeral.short)) c.requires.digits (omega (arith, c.left_of.ensures, c.right_of.ensures)) in
    (y.0, y.1, omega (arith, y.2, c.left_of.ensures, c.right_of.ensures))
