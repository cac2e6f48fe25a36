use Rattle.staat_core.proofs.Shutting.{part_stays}
use Rattle.staat_core.proofs.joins.Joins.shut_at.Goals as goal

pub returns : goal.returns
returns c =
    let out = c.meets.ensures.0 c.if-not-meets.false in
    let from = c.meets-2.ensures.0 c.if-not-meets-2.false in
    part_stays c.args.self.now.ahead.rows c.args.self.now.back.rows c.args.w c.single-alone.result c.without-rest.result c.args.p c.requires.reversed c.single-alone.ensures.is c.without-rest.ensures.is c.requires.member
    out.0 ((c.arcs_from.ensures.members out.0).0 out.1) out.2
    from.0 ((c.arcs_from-2.ensures.members from.0).0 from.1) from.2
