use Rattle.std.specs.FinSet as set
use Rattle.staat_plan.proofs.planner.Planner.+outcome_of_set.Given as goal

abbrev pub decreases-outcome_of_set : goal.decreases-outcome_of_set
decreases-outcome_of_set g l = set.len l.w
