use Rattle.std.proofs.Common.{◌≡◌}
use Rattle.staat_holds.specs.Chains.{own_names}
use Rattle.staat_holds.proofs.names.own_names.Given as goal

abbrev pub invariant-loop-p : goal.invariant-loop-p
invariant-loop-p l = l.names.items ≡ own_names l.p
