use Rattle.std.proofs.Common.{◌≡◌, ◌≤◌, ◌+◌, ◌*◌, map, take}
use Rattle.staat_pairs.specs.Tables.{Table}
use Rattle.staat_cells.specs.CellGraphs.{HasArcsOf}
use Rattle.staat_cells.specs.Compositions.{entry_of}
use Rattle.staat_text.specs.CellTexts.{short_arcs}
use Rattle.staat_text.specs.GraphTexts.{arcs_of}
use Rattle.staat_text.specs.Holding.{HoldsCells}
use Rattle.staat_text.proofs.cells.hold_cells.Given as goal

abbrev pub invariant-loop-cell : goal.invariant-loop-cell
invariant-loop-cell l = record {
  room : l.held.length ≤ (l.cell-index + 1) * 18446744073709551615;
  so_far : (t : Table) → HasArcsOf t l.graphs → HoldsCells t l.parts (map entry_of (take l.cell-index l.cells)) l.initial.held l.held;
  same : l.arcs.items ≡ short_arcs (arcs_of l.last.rows l.parts);
}
