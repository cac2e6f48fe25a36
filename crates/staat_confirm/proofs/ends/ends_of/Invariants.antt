use Rattle.std.proofs.Common.{◌≡◌, ◌≤◌, length}
use Rattle.staat_confirm.specs.Owners.{AreEndsFrom}
use Rattle.staat_confirm.proofs.ends.ends_of.Given as goal

abbrev pub invariant-loop-k : goal.invariant-loop-k
invariant-loop-k l = record {
  count : length l.ends.items ≡ length l.nodes;
  within : l.k ≤ length l.nodes;
  ends : AreEndsFrom l.nodes l.k l.ends.items;
}

abbrev pub decreases-loop-k : goal.decreases-loop-k
decreases-loop-k l = l.k
