use Rattle.std.proofs.Common.{◌≡◌, take}
use Rattle.staat_rest.proofs.copying.copied_holds.Given as goal

abbrev pub invariant-loop-hold : goal.invariant-loop-hold
invariant-loop-hold l = l.copy.items ≡ take l.hold-index l.holds
