use Rattle.staat_graph.proofs.RowLemmas.{AreFirstGroups}
use Rattle.staat_graph.proofs.rows.row_groups.Given as goal

abbrev pub invariant-loop-p : goal.invariant-loop-p
invariant-loop-p l = AreFirstGroups l.rows l.p l.groups.items
