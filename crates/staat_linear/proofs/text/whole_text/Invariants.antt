use Rattle.std.proofs.Common.{◌≡◌, take}
use Rattle.std.specs.Prelude.{flat_map}
use Rattle.staat_linear.specs.OrderTexts.{take_line}
use Rattle.staat_linear.proofs.text.whole_text.Given as goal

abbrev pub invariant-loop-leave : goal.invariant-loop-leave
invariant-loop-leave l = l.text.items ≡ flat_map take_line (take l.leave-index l.leaves)
