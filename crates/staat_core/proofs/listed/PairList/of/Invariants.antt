use Rattle.staat_core.specs.Listed.{AreTablePairs}
use Rattle.staat_core.proofs.listed.PairList.of.Given as goal

abbrev pub invariant-loop-b : goal.invariant-loop-b
invariant-loop-b l = AreTablePairs l.table l.list

abbrev pub invariant-loop-a : goal.invariant-loop-a
invariant-loop-a l = AreTablePairs l.table l.list
