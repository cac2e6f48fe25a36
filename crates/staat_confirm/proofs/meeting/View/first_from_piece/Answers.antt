use Rattle.std.proofs.Common.{get_or}
use Rattle.staat_confirm.specs.Found.{MeetsTo}
use Rattle.staat_confirm.proofs.Least.{found_none, found_some, piece_end, piece_found, piece_more}
use Rattle.staat_confirm.proofs.Lists.{read_in}
use Rattle.staat_confirm.proofs.meeting.View.first_from_piece.Goals as goal

pub returns-in-Some : goal.returns-in-Some
returns-in-Some g c =
    let b = get_or c.args.rest.now c.loop-y.y 0 in
    let least = found_some (MeetsTo c.args.self.now.product.now c.args.self.now.along.now.d c.args.a c.args.i b) c.in_ok-arc.field-0 c.in-Some.arc c.in-Some.is c.in_ok-arc.ensures in
    piece_found c.args.self.now.product.now c.args.self.now.along.now.d c.args.a c.args.i c.args.rest.now c.loop-y.y c.in-Some.arc c.requires.ascending c.loop-y-test.true c.loop-y.invariant least (read_in c.args.rest.now c.loop-y.y 0 c.loop-y-test.true)

pub loop-y-preserved : goal.loop-y-preserved
loop-y-preserved g c =
    let b = get_or c.args.rest.now c.loop-y.y 0 in
    piece_more c.args.self.now.product.now c.args.self.now.along.now.d c.args.a c.args.i c.args.rest.now c.loop-y.y c.loop-y-test.true c.loop-y.invariant
    (found_none (MeetsTo c.args.self.now.product.now c.args.self.now.along.now.d c.args.a c.args.i b) c.in_ok-arc.field-0 c.in-None.is c.in_ok-arc.ensures)

pub returns : goal.returns
returns g c = piece_end c.args.self.now.product.now c.args.self.now.along.now.d c.args.a c.args.i c.args.rest.now c.loop-y.y c.loop-y-test.false c.loop-y.invariant
