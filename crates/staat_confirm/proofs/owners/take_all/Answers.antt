use Rattle.std.proofs.Common.{refl, get_or}
use Rattle.staat_confirm.proofs.Lists.{read_in}
use Rattle.staat_confirm.proofs.Owning.{refused_more, takes_end, takes_more}
use Rattle.staat_confirm.proofs.owners.take_all.Goals as goal

pub returns-then-not-take-clause-refused : goal.returns-then-not-take-clause-refused
returns-then-not-take-clause-refused c = λ t. (
  get_or c.args.members.now c.loop-p.p-index 0,
  read_in c.args.members.now c.loop-p.p-index 0 c.loop-p-test.true,
  refused_more _ c.args.node _ c.args.owners.now c.loop-p.owners c.loop-p.auto.owners c.loop-p.invariant (c.if-not-take.ensures.refused t),
)

pub loop-p-preserved : goal.loop-p-preserved
loop-p-preserved c = takes_more c.args.members.now c.loop-p.p-index 0 c.args.node c.args.owners.now c.loop-p.owners c.take.new.owners c.loop-p-test.true c.loop-p.invariant (c.if-not-take.ensures.taken refl)

pub returns-clause-taken : goal.returns-clause-taken
returns-clause-taken c = λ t. takes_end c.args.members.now c.loop-p.p-index c.args.node c.args.owners.now c.loop-p.owners c.loop-p-test.false c.loop-p.invariant
