use Rattle.std.proofs.Common.{◌≡◌, length}
use Rattle.staat_decide.specs.Keeping.{AreKept}
use Rattle.staat_decide.proofs.table.table_for.Given as goal

abbrev pub invariant-loop : goal.invariant-loop
invariant-loop l = record {
  some : length l.table.items ≡ l.counter;
  kept : AreKept l.parts l.table.items;
}
