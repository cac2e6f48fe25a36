use Rattle.std.specs.FinSet as set
use Rattle.staat_model.specs.Sets.{Has, IsSubset}
use Rattle.staat_planes.specs.Tables.{GainsArcs, IsAhead}
use Rattle.staat_planes.proofs.table.PlaneTable.put_pairs.Given as goal

abbrev pub invariant-loop-left : goal.invariant-loop-left
invariant-loop-left l = record {
  within : IsSubset l.left l.fn.others;
  rows : GainsArcs (IsAhead l.self l.heading.d) l.a (λ y. Has l.fn.others y × (Has l.left y → ⊥)) l.fn.rows l.rows;
}

abbrev pub decreases-loop-left : goal.decreases-loop-left
decreases-loop-left l = set.len l.left
