use Rattle.std.proofs.Common.{◌≤◌, length}
use Rattle.staat_check.proofs.places.table_of_places.Given as goal

abbrev pub invariant-loop-k : goal.invariant-loop-k
invariant-loop-k l = 1 ≤ length l.places.items
