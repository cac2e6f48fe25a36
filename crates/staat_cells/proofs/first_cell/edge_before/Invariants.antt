use Rattle.std.proofs.Common.{◌≡◌, ℕ, ◌+◌, ◌<◌, ◌≤◌}
use Rattle.std.specs.Prelude.{Some, slice_get}
use Rattle.staat_vec.specs.declared.vector.V3.{V3}
use Rattle.staat_cells.specs.FirstCell.{HasNoLow}
use Rattle.staat_cells.proofs.first_cell.edge_before.Given as goal

-- none of the planes that were looked at has such an edge
abbrev pub invariant-loop-j : goal.invariant-loop-j
invariant-loop-j l = (k : ℕ) (g : V3) → l.end ≤ k + l.j → k < l.end
    → slice_get l.planes k ≡ Some g → HasNoLow l.planes g
