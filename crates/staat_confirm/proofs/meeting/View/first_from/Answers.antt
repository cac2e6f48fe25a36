use Rattle.std.proofs.Common.{arith}
use Rattle.staat_confirm.specs.Found.{MeetsFromPiece}
use Rattle.staat_confirm.proofs.Least.{found_none, found_some, from_end, from_found, from_more}
use Rattle.staat_confirm.proofs.meeting.View.first_from.Goals as goal

pub returns-in-Some : goal.returns-in-Some
returns-in-Some g c =
    let least = found_some (MeetsFromPiece c.args.self.now.product.now c.args.self.now.along.now.d c.args.a c.loop-i.i c.args.rest.now) c.in_ok-arc.field-0 c.in-Some.arc c.in-Some.is c.in_ok-arc.ensures in
    from_found c.args.self.now.product.now c.args.self.now.along.now.d c.args.a c.loop-i.i c.args.rest.now c.in-Some.arc c.loop-i.invariant least

pub loop-i-preserved : goal.loop-i-preserved
loop-i-preserved g c =
    from_more c.args.self.now.product.now c.args.self.now.along.now.d c.args.a c.loop-i.i c.args.rest.now c.loop-i.invariant
    (found_none (MeetsFromPiece c.args.self.now.product.now c.args.self.now.along.now.d c.args.a c.loop-i.i c.args.rest.now) c.in_ok-arc.field-0 c.in-None.is c.in_ok-arc.ensures)

pub returns : goal.returns
returns g c = from_end c.args.self.now.product.now c.args.self.now.along.now.d c.args.a c.loop-i.i c.args.rest.now (let count = c.pieces-i-end.ensures.count in omega (arith, count, c.loop-i-test.false)) c.loop-i.invariant
