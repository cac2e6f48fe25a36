use Rattle.std.proofs.Common.{◌*◌, ◌≡◌, ◌≤◌, take}
use Rattle.std.specs.Prelude.{sum_by}
use Rattle.staat_judging.specs.Confirming.{hold_count}
use Rattle.staat_judging.proofs.lines.holds_in.Given as goal

abbrev pub invariant-loop-node : goal.invariant-loop-node
invariant-loop-node l = record {
  count : l.count ≡ sum_by hold_count (take l.node-index l.nodes);
  room : l.count ≤ l.node-index * 18446744073709551615;
}
