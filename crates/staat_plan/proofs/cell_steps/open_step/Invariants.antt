use Rattle.std.proofs.Common.{ℕ, ◌<◌}
use Rattle.std.specs.Prelude.{None}
use Rattle.staat_cells.specs.Skeletons.{opens_at}
use Rattle.staat_plan.specs.CellSteps.{IsStepAmong}
use Rattle.staat_plan.proofs.cell_steps.open_step.Given as goal

-- none of the open cells at the places that were passed serves
abbrev pub invariant-loop-i : goal.invariant-loop-i
invariant-loop-i l = (j : ℕ) → j < l.i → IsStepAmong l.table (opens_at l.skeleton j) None
