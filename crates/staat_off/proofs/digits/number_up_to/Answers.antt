use Rattle.std.proofs.Common.{arith}
use Rattle.staat_off.proofs.DigitLemmas.{after_more, digit_there}
use Rattle.staat_off.proofs.digits.number_up_to.Goals as goal

pub loop-digit-preserved : goal.loop-digit-preserved
loop-digit-preserved c =
    let ds = c.args.digits.now in
    let i = c.loop-digit.digit-index in
    let there = digit_there ds i c.requires.digits (omega arith) in
    omega (arith, after_more 0 ds i (omega arith), there.0, there.1, there.2)
