use Rattle.std.proofs.Common.{◌≡◌, length}
use Rattle.staat_cells.proofs.OppositeCells.{ArePointsAt}
use Rattle.staat_cells.proofs.points.points_at.Given as goal

abbrev pub invariant-loop-k : goal.invariant-loop-k
invariant-loop-k l = record {
  long : length l.cells.items ≡ l.k;
  are : ArePointsAt l.planes l.vertices l.k l.cells.items;
}
