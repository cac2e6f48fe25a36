use Rattle.staat_graph.proofs.RowLemmas.{IsLetThrough}
use Rattle.staat_graph.proofs.rows.walk_rows.Given as goal

abbrev pub invariant-loop-k : goal.invariant-loop-k
invariant-loop-k l = IsLetThrough l.rows l.k l.table.items
