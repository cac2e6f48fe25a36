use Rattle.staat_plan.proofs.LoneLineLemmas.{along_line}
use Rattle.staat_plan.proofs.laws.lone_line_serves.Goals as goal

pub returns : goal.returns
returns c parts w planes v d is are some lone serves = along_line parts is w planes are v some lone d serves
