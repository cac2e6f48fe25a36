use Rattle.std.proofs.Common.{◌<◌, ◌≤◌, ◌+◌, length}
use Rattle.staat_decide.specs.Reaching.{AreReached, unmarked}
use Rattle.staat_decide.proofs.reach.reached.Given as goal

abbrev pub invariant-loop : goal.invariant-loop
invariant-loop l = record {
  reached : AreReached l.way l.rows l.marks.items;
  left : unmarked l.marks.items + l.counter ≤ length l.rows;
  start : l.start < length l.rows;
}
