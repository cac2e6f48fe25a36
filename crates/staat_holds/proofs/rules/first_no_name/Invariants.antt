use Rattle.staat_holds.specs.Chains.{IsName}
use Rattle.staat_holds.proofs.FirstFailing.{KeepBefore}
use Rattle.staat_holds.proofs.rules.first_no_name.Given as goal

abbrev pub invariant-loop-k : goal.invariant-loop-k
invariant-loop-k l = KeepBefore (IsName l.names) l.nodes l.k
