use Rattle.std.proofs.Common.{take}
use Rattle.staat_cells.specs.CellGraphs.{AddsConesOf}
use Rattle.staat_cells.proofs.part_arcs.add_cones.Given as goal

abbrev pub invariant-loop-k : goal.invariant-loop-k
invariant-loop-k l = AddsConesOf (take l.k l.cones) l.a l.b l.initial.batches.items l.batches.items
