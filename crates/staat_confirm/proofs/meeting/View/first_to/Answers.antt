use Rattle.std.proofs.Common.{arith, subst}
use Rattle.staat_model.specs.Removal.{MeetsAlong}
use Rattle.staat_confirm.proofs.Least.{to_end, to_found}
use Rattle.staat_confirm.proofs.meeting.View.first_to.Goals as goal

pub returns-then-branch : goal.returns-then-branch
returns-then-branch g c = to_found c.args.self.now.product.now c.args.self.now.along.now.d c.args.a c.args.i c.args.b c.loop-j.j c.loop-j.invariant
    (subst (λ ps. MeetsAlong ps c.args.self.now.along.now.d (record { a = c.args.a; i = c.args.i; b = c.args.b; j = c.loop-j.j })) c.as_slice.ensures.parts (c.in_ok-meets.ensures.0 c.if-branch.true))

pub returns : goal.returns
returns g c = to_end c.args.self.now.product.now c.args.self.now.along.now.d c.args.a c.args.i c.args.b c.loop-j.j (let count = c.pieces-j-end.ensures.count in omega (arith, count, c.loop-j-test.false)) c.loop-j.invariant
