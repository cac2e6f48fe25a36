use Rattle.std.proofs.Common.{All, take}
use Rattle.staat_check.specs.Conditions.{LeadsAheadOf}
use Rattle.staat_check.proofs.directions.leads_ahead_small.Given as goal

abbrev pub invariant-loop-k : goal.invariant-loop-k
invariant-loop-k l = All (LeadsAheadOf l.normals l.d) (take l.k-index l.numbers)
