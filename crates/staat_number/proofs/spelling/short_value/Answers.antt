use Rattle.std.proofs.Common.{◌≤◌, get_or, arith}
use Rattle.std.proofs.lemmas.Bool.Decides.{nat_tests}
use Rattle.staat_number.proofs.SpellingLemmas.{value_at, over_most, digits_step}
use Rattle.staat_number.specs.declared.spelling.TheConstants.{MOST_SHORT}
use Rattle.staat_number.proofs.spelling.short_value.Goals as goal

pub returns-then-not-is_ascii_digit-clause-none : goal.returns-then-not-is_ascii_digit-clause-none
returns-then-not-is_ascii_digit-clause-none c = λ n h. let there = value_at c.args.digits.now c.digits.b-index h.digits (omega arith) in grind (arith, nat_tests, there.0, there.1)

pub returns-then-value-tenth-clause-none : goal.returns-then-value-tenth-clause-none
returns-then-value-tenth-clause-none c = λ n h. over_most MOST_SHORT c.args.digits.now c.digits.b-index c.digits.value n (omega arith) c.digits.invariant h (omega arith)

pub returns-then-digit-value-clause-none : goal.returns-then-digit-value-clause-none
returns-then-digit-value-clause-none c = λ n h. over_most MOST_SHORT c.args.digits.now c.digits.b-index c.digits.value n (omega arith) c.digits.invariant h (omega arith)

pub digits-preserved : goal.digits-preserved
digits-preserved c =
    let low : 48 ≤ get_or c.args.digits.now c.digits.b-index 0 = grind (arith, nat_tests) in
    let high : get_or c.args.digits.now c.digits.b-index 0 ≤ 57 = grind (arith, nat_tests) in
    digits_step MOST_SHORT c.args.digits.now c.digits.b-index c.digits.value (omega arith) c.digits.invariant low high (omega arith)
