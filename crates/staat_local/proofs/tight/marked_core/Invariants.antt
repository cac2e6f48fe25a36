use Rattle.std.proofs.Common.{All}
use Rattle.staat_core.specs.Listed.{HasListRoom, pairs_in_use}
use Rattle.staat_local.specs.Tightness.{IsMarkedPair}
use Rattle.staat_local.proofs.tight.marked_core.Given as goal

abbrev pub invariant-loop-pair : goal.invariant-loop-pair
invariant-loop-pair l = HasListRoom l.marked × All (IsMarkedPair l.table l.marks) (pairs_in_use l.marked)
