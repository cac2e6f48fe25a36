use Rattle.std.proofs.Common.{◌≡◌, ◌+◌, ◌-◌, ◌*◌, ap, ◌∙◌, take, get_or, arith}
use Rattle.std.specs.Char.{digit_value}
use Rattle.std.specs.Str.Parse.{digits_value_after}
use Rattle.staat_off.proofs.DigitLemmas.{after_more, digit_there}
use Rattle.staat_off.proofs.trim.pushed_all.Goals as goal

pub loop-digit-preserved : goal.loop-digit-preserved
loop-digit-preserved c =
    let ds = c.args.digits.now in
    let i = c.loop-digit.digit-index in
    let there = digit_there ds i c.requires.all (omega arith) in
    let digit : digit_value (get_or ds i 0) ≡ get_or ds i 0 - 48 = omega (arith, there.0, there.2) in
    record {
      trims = λ value t.
          let more = after_more value ds i (omega arith) ∙ ap (λ d. digits_value_after 10 value (take i ds) * 10 + d) digit in
          rw more (c.pushed-trimmed.ensures.trims (digits_value_after 10 value (take i ds)) (c.loop-digit.invariant.trims value t));
      zeros = omega (arith, c.pushed-trimmed.ensures.zeros, c.loop-digit.invariant.zeros);
    }
