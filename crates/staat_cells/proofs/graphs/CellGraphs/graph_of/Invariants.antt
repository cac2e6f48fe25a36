use Rattle.staat_cells.proofs.GraphRows.{HasArcsUpTo}
use Rattle.staat_cells.proofs.graphs.CellGraphs.graph_of.Given as goal

abbrev pub invariant-loop-batch : goal.invariant-loop-batch
invariant-loop-batch l = HasArcsUpTo l.rows l.batch-items l.signs l.batch-index
