use Rattle.std.specs.Prelude.{◌-◌, length}
use Rattle.staat_plan.proofs.walker.+step_past.Given as goal

abbrev pub decreases-step_past : goal.decreases-step_past
decreases-step_past g l = length l.table.now.planes - l.k
