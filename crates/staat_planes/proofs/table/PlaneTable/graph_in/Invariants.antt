use Rattle.std.specs.FinSet as set
use Rattle.staat_model.specs.Sets.{IsSubset}
use Rattle.staat_planes.proofs.GraphSteps.{HasArcsBut}
use Rattle.staat_planes.proofs.table.PlaneTable.graph_in.Given as goal

abbrev pub invariant-loop-heading : goal.invariant-loop-heading
invariant-loop-heading l = record {
  within : IsSubset l.left l.fn.w;
  rows : HasArcsBut l.self l.fn.w l.left l.fn.d l.rows;
}

abbrev pub decreases-loop-heading : goal.decreases-loop-heading
decreases-loop-heading l = set.len l.left
