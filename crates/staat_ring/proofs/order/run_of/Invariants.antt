use Rattle.std.proofs.Common.{◌≡◌, ◌≤◌, length, true}
use Rattle.staat_ring.proofs.HalfTurn.{AreBreaksBelow, RisesBelow}
use Rattle.staat_ring.proofs.order.run_of.Given as goal

abbrev pub invariant-loop-i : goal.invariant-loop-i
invariant-loop-i l = record {
  all : l.i-end ≡ length l.es;
  later : 1 ≤ l.i;
  breaks : AreBreaksBelow l.turn.table.now.planes l.turn.g l.es l.i l.ends.items;
  rises : l.rises ≡ true → RisesBelow l.turn.table.now.planes l.turn.g l.es l.i;
}
