use Rattle.staat_short.proofs.ShownOrders.{plan_ordered, rest_ordered, stuck_ordered}
use Rattle.staat_short.proofs.laws.shown_plans_are_in_order.Goals as goal

pub returns-clause-plan : goal.returns-clause-plan
returns-clause-plan c parts plan product = plan_ordered parts product plan

pub returns-clause-rest : goal.returns-clause-rest
returns-clause-rest c parts tree product = rest_ordered parts product tree

pub returns-clause-stuck : goal.returns-clause-stuck
returns-clause-stuck c parts hold product = stuck_ordered parts product hold
