use Rattle.staat_holds.proofs.NodeNames.{IsNotBefore}
use Rattle.staat_holds.proofs.names.place_of.Given as goal

abbrev pub invariant-loop-k : goal.invariant-loop-k
invariant-loop-k l = IsNotBefore l.nodes l.name l.k
