use Rattle.std.proofs.Common.{[]}
use Rattle.staat_cells.specs.CellGraphs.{AddsArcs, IsPairArc}
use Rattle.staat_cells.proofs.PieceCones.{BelowParts}
use Rattle.staat_cells.proofs.part_arcs.all_batches.Given as goal

abbrev pub invariant-loop-pair : goal.invariant-loop-pair
invariant-loop-pair l = AddsArcs (BelowParts (IsPairArc l.table) l.pair) [] l.batches.items
