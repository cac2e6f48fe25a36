use Rattle.std.proofs.Common.{◌<◌}
use Rattle.staat_decide.proofs.EachPasses.{each_has, each_more}
use Rattle.staat_decide.proofs.order.all_below.Goals as goal

pub loop-l-preserved : goal.loop-l-preserved
loop-l-preserved c =
    each_more (λ l. l < c.args.count) c.args.labels.now c.loop-l.l-index 0 c.loop-l-test.true c.loop-l.invariant c.if-l-count.false

pub returns : goal.returns
returns c = each_has (λ l. l < c.args.count) c.args.labels.now c.loop-l.l-index c.loop-l-test.false c.loop-l.invariant
