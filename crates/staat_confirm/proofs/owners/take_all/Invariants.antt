use Rattle.std.proofs.Common.{take, Contains}
use Rattle.staat_confirm.specs.Owners.{TakesAll}
use Rattle.staat_confirm.proofs.owners.take_all.Given as goal

abbrev pub invariant-loop-p : goal.invariant-loop-p
invariant-loop-p l = TakesAll (Contains (take l.p-index l.members)) l.node l.initial.owners l.owners
