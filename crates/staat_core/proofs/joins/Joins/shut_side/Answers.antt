use Rattle.staat_core.proofs.Shutting.{no_shut_side}
use Rattle.staat_core.proofs.joins.Joins.shut_side.Goals as goal

pub returns : goal.returns
returns c =
    no_shut_side c.args.self.now.ahead.rows c.args.self.now.back.rows c.args.w c.reach-reached.result c.reach-reaching.result c.least-p.result c.requires.reversed c.least-p.ensures.least.has
    c.reach-reached.ensures (c.within.ensures.0 c.if-not-within.false)
    c.reach-reaching.ensures (c.within-2.ensures.0 c.if-not-within-2.false)
