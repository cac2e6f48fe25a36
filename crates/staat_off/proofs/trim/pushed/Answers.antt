use Rattle.std.proofs.Common.{◌≡◌, ◌+◌, min, arith}
use Rattle.staat_off.specs.declared.trim.TheConstants.{BEYOND}
use Rattle.staat_off.proofs.Pushes.{push_digit, push_zero}
use Rattle.staat_off.proofs.trim.pushed.Goals as goal

pub returns-then-digit-ne0-clause-trims : goal.returns-then-digit-ne0-clause-trims
returns-then-digit-ne0-clause-trims c = λ value t.
    let kept : c.min-mantissa.result ≡ min (c.with_zeros-raised.result + c.args.digit) BEYOND = omega arith in
    rw kept (push_digit c.args.front.mantissa c.args.front.zeros value c.args.digit c.with_zeros-raised.result (omega arith) c.requires.digit c.with_zeros-raised.ensures t)

pub returns-clause-trims : goal.returns-clause-trims
returns-clause-trims c = λ value t.
    let none : c.args.digit ≡ 0 = omega arith in
    rw none (push_zero c.args.front.mantissa c.args.front.zeros value t)
