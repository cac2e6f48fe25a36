use Rattle.std.proofs.Common.{◌≡◌, ◌++◌, take}
use Rattle.staat_text.specs.PlanTexts.{numbers_text}
use Rattle.staat_text.proofs.numbers.push_numbers.Given as goal

abbrev pub invariant-loop-p : goal.invariant-loop-p
invariant-loop-p l = l.text.items ≡ l.initial.text.items ++ numbers_text (take l.p-index l.numbers)
