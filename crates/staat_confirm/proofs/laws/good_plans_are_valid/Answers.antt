use Rattle.staat_confirm.proofs.Valid.{good_plan}
use Rattle.staat_confirm.proofs.laws.good_plans_are_valid.Goals as goal

pub returns : goal.returns
returns c = good_plan
