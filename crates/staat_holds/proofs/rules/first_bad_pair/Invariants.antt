use Rattle.staat_holds.specs.Holds.{IsCorePair}
use Rattle.staat_holds.proofs.FirstFailing.{KeepBefore}
use Rattle.staat_holds.proofs.rules.first_bad_pair.Given as goal

abbrev pub invariant-loop-k : goal.invariant-loop-k
invariant-loop-k l = KeepBefore (IsCorePair l.parts l.places l.count) l.pairs l.k
