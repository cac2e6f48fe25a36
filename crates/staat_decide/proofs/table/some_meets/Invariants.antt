use Rattle.std.proofs.Common.{◌≡◌, ◌<◌, ℕ, length}
use Rattle.staat_decide.specs.Keeping.{AreKept, MeetsSome}
use Rattle.staat_decide.proofs.table.some_meets.Given as goal

abbrev pub invariant-loop-i : goal.invariant-loop-i
invariant-loop-i g l = record {
  some : length l.table.items ≡ length l.initial.table.items;
  kept : AreKept l.view.parts.now l.table.items;
  none : (k : ℕ) → k < l.i → MeetsSome l.view.parts.now l.view.along.now.d l.a k l.b → ⊥;
}
