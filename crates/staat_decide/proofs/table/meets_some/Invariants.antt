use Rattle.std.proofs.Common.{◌≡◌, ◌<◌, ℕ, length}
use Rattle.staat_model.specs.Removal.{MeetsAlong}
use Rattle.staat_decide.specs.Keeping.{AreKept}
use Rattle.staat_decide.proofs.table.meets_some.Given as goal

abbrev pub invariant-loop-j : goal.invariant-loop-j
invariant-loop-j g l = record {
  some : length l.table.items ≡ length l.initial.table.items;
  kept : AreKept l.view.parts.now l.table.items;
  none : (k : ℕ) → k < l.j → MeetsAlong l.view.parts.now l.view.along.now.d (record { a = l.a; i = l.i; b = l.b; j = k }) → ⊥;
}
