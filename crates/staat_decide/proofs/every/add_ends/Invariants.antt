use Rattle.std.proofs.Common.{ℕ, ◌<◌, Contains}
use Rattle.staat_decide.specs.declared.every.End.{End}
use Rattle.staat_decide.proofs.every.add_ends.Given as goal

abbrev pub invariant-loop-piece : goal.invariant-loop-piece
invariant-loop-piece l = record {
  kept : (e : End) → Contains l.initial.ends.items e → Contains l.ends.items e;
  each : (i : ℕ) → i < l.piece → Contains l.ends.items (record { part = l.part; piece = i });
}
