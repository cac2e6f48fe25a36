use Rattle.staat_core.specs.Listed.{AreTablePairs}
use Rattle.staat_core.proofs.listed.PairList.put_between.Given as goal

abbrev pub invariant-loop-i : goal.invariant-loop-i
invariant-loop-i l = AreTablePairs l.table l.self

abbrev pub invariant-loop-j : goal.invariant-loop-j
invariant-loop-j l = AreTablePairs l.table l.self
