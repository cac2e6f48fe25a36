use Rattle.std.proofs.Common.{get_or}
use Rattle.staat_confirm.specs.Found.{MeetsFrom}
use Rattle.staat_confirm.proofs.Least.{between_end, between_found, between_more, found_none, found_some}
use Rattle.staat_confirm.proofs.Lists.{read_in}
use Rattle.staat_confirm.proofs.meeting.View.first_meeting.Goals as goal

pub returns-in-Some : goal.returns-in-Some
returns-in-Some g c =
    let a = get_or c.args.moved.now c.loop-x.x 0 in
    let least = found_some (MeetsFrom c.args.self.now.product.now c.args.self.now.along.now.d a c.args.rest.now) c.in_ok-arc.field-0 c.in-Some.arc c.in-Some.is c.in_ok-arc.ensures in
    between_found c.args.self.now.product.now c.args.self.now.along.now.d c.args.moved.now c.args.rest.now c.loop-x.x c.in-Some.arc c.requires.moved_ascending c.loop-x-test.true c.loop-x.invariant least (read_in c.args.moved.now c.loop-x.x 0 c.loop-x-test.true)

pub loop-x-preserved : goal.loop-x-preserved
loop-x-preserved g c =
    let a = get_or c.args.moved.now c.loop-x.x 0 in
    between_more c.args.self.now.product.now c.args.self.now.along.now.d c.args.moved.now c.args.rest.now c.loop-x.x c.loop-x-test.true c.loop-x.invariant
    (found_none (MeetsFrom c.args.self.now.product.now c.args.self.now.along.now.d a c.args.rest.now) c.in_ok-arc.field-0 c.in-None.is c.in_ok-arc.ensures)

pub returns : goal.returns
returns g c = between_end c.args.self.now.product.now c.args.self.now.along.now.d c.args.moved.now c.args.rest.now c.loop-x.x c.loop-x-test.false c.loop-x.invariant
