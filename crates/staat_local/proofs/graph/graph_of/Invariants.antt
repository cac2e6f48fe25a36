use Rattle.std.proofs.Common.{◌≡◌, length}
use Rattle.staat_local.specs.Beginnings.{HoldsBetween}
use Rattle.staat_local.proofs.Holding.{HasFirstRows}
use Rattle.staat_local.proofs.graph.graph_of.Given as goal

abbrev pub invariant-loop-a : goal.invariant-loop-a
invariant-loop-a l = record {
  long : length l.rows ≡ 32;
  rows : HasFirstRows (HoldsBetween l.table l.marks l.d) l.a l.rows;
}
