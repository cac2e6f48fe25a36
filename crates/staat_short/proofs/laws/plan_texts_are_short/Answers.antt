use Rattle.staat_short.proofs.TextSizes.{plan_short}
use Rattle.staat_short.proofs.laws.plan_texts_are_short.Goals as goal

pub returns : goal.returns
returns c = plan_short
