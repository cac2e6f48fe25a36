use Rattle.std.proofs.Common.{ℕ, ◌<◌, Contains, get_or}
use Rattle.staat_model.specs.Assemblies.{piece_count}
use Rattle.staat_decide.proofs.every.ends_of.Given as goal

abbrev pub invariant-loop-a : goal.invariant-loop-a
invariant-loop-a l = (k : ℕ) → k < l.a-index → (i : ℕ) → i < piece_count l.parts (get_or l.w k 0)
    → Contains l.ends.items (record { part = get_or l.w k 0; piece = i })
