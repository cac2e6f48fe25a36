use Rattle.std.proofs.Common.{◌≡◌}
use Rattle.staat_model.specs.Lines.{members_from}
use Rattle.staat_text.proofs.numbers.numbers_of.Given as goal

abbrev pub invariant-loop-p : goal.invariant-loop-p
invariant-loop-p l = l.numbers.items ≡ members_from 0 l.p l.w
