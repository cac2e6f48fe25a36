use Rattle.staat_linear.proofs.OneOrder.{IsChosen-unique}
use Rattle.staat_linear.proofs.laws.one_order.Goals as goal

pub returns : goal.returns
returns c parts w a b = IsChosen-unique parts
