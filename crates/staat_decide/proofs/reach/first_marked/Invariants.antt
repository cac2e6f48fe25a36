use Rattle.std.proofs.Common.{◌≡◌, ◌≤◌, ◌+◌, ℕ, length}
use Rattle.staat_decide.specs.Reaching.{IsMarkedPlace, unmarked}
use Rattle.staat_decide.proofs.reach.first_marked.Given as goal

abbrev pub invariant-loop : goal.invariant-loop
invariant-loop l = record {
  count : length l.marks.items ≡ l.counter;
  first : IsMarkedPlace l.marks.items 0;
  others : (j : ℕ) → IsMarkedPlace l.marks.items j → j ≡ 0;
  left : unmarked l.marks.items + 1 ≤ l.counter;
}
