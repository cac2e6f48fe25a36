use Rattle.std.proofs.Common.{take}
use Rattle.staat_cells.proofs.GraphRows.{AddsLeft}
use Rattle.staat_cells.proofs.joined_batches.add_batch_arcs.Given as goal

abbrev pub invariant-loop-arc : goal.invariant-loop-arc
invariant-loop-arc l = AddsLeft l.outside (take l.arc-index l.arc-items) l.initial.rows l.rows
