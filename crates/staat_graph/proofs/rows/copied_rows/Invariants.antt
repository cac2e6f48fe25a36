use Rattle.std.proofs.Common.{◌≡◌, take}
use Rattle.staat_graph.proofs.rows.copied_rows.Given as goal

abbrev pub invariant-loop-row : goal.invariant-loop-row
invariant-loop-row l = l.table.items ≡ take l.row-index l.rows
