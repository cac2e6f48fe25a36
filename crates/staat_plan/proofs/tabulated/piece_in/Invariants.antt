use Rattle.std.proofs.Common.{◌≡◌, ◌<◌, ℕ, Some}
use Rattle.staat_model.specs.Assemblies.{piece_at}
use Rattle.staat_plan.proofs.tabulated.piece_in.Given as goal

abbrev pub invariant-loop-i : goal.invariant-loop-i
invariant-loop-i l = (k : ℕ) → k < l.i → piece_at l.assembly l.a k ≡ Some l.points → ⊥
