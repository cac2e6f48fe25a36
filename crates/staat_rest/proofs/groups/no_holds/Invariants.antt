use Rattle.std.proofs.Common.{◌≡◌, ℕ, ◌-◌, ◌≤◌, [], get_or, length}
use Rattle.staat_rest.proofs.groups.no_holds.Given as goal

abbrev pub invariant-each : goal.invariant-each
invariant-each l = record {
  few : length l.lists.items ≤ l.count;
  none : (n : ℕ) → get_or l.lists.items n [] ≡ [];
}

abbrev pub decreases-each : goal.decreases-each
decreases-each l = l.count - length l.lists.items
