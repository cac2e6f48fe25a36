use Rattle.staat_holds.proofs.FirstFailing.{KeepBefore}
use Rattle.staat_confirm.specs.Splits.{KeepsHolds}
use Rattle.staat_confirm.proofs.groups.broken_group.Given as goal

abbrev pub invariant-loop-k : goal.invariant-loop-k
invariant-loop-k g l = KeepBefore (KeepsHolds l.parts) l.nodes l.k
