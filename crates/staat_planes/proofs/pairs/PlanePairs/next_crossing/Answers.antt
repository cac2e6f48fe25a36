use Rattle.std.proofs.Common.{◌∙◌, arith, sym}
use Rattle.staat_planes.specs.PairOrder.{numbers_of}
use Rattle.staat_planes.proofs.PairSteps.{count_is, nothing_left}
use Rattle.staat_planes.proofs.pairs.PlanePairs.next_crossing.Goals as goal

pub returns-then-self-clause-crossing : goal.returns-then-self-clause-crossing
returns-then-self-clause-crossing c =
    let p = c.enter_row.new.self in
    let place = c.enter_row.ensures.place in
    let end = c.enter_row.ensures.end c.if-self.true in
    let long = count_is c.args.table.now.planes p place in
    sym c.enter_row.ensures.left ∙ nothing_left c.args.table.now.planes (numbers_of p) p.first p.second (omega (arith, long, c.if-self.true)) (omega (arith, long, end))
