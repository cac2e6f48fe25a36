use Rattle.std.proofs.Common.{◌↔◌, ◌⊎◌, ℕ, List, [], All, take}
use Rattle.staat_vec.specs.declared.vector.Sign.{Sign}
use Rattle.staat_cells.specs.Batches.{IsJoinedBatch}
use Rattle.staat_cells.specs.CellGraphs.{IsArcAt, IsListedArc}
use Rattle.staat_cells.proofs.joined_batches.joined_batches.Given as goal

abbrev pub invariant-loop-batch : goal.invariant-loop-batch
invariant-loop-batch l = record {
  rules : All IsJoinedBatch l.found.items;
  arcs : (signs : List Sign) (a b : ℕ) → IsArcAt l.found.items signs a b
      ↔ (IsArcAt [] signs a b ⊎ IsListedArc (take l.batch-index l.batches) signs a b);
}
