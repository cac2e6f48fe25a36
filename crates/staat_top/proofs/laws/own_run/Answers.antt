use Rattle.staat_top.proofs.OwnRuns.{own_run}
use Rattle.staat_top.proofs.laws.own_run.Goals as goal

pub returns : goal.returns
returns c = own_run
