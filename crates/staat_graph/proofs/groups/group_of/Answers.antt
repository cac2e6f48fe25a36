use Rattle.staat_model.specs.Bridges.{Back}
use Rattle.staat_graph.specs.Graphs.{HasArc, here, IsReach}
use Rattle.staat_graph.proofs.Reaching.{group_of_reach}
use Rattle.staat_graph.proofs.Walking.{reach_back}
use Rattle.staat_graph.proofs.groups.group_of.Goals as goal

pub returns-clause-group : goal.returns-clause-group
returns-clause-group c =
    let into : IsReach (Back (HasArc c.args.g.now.ahead.rows)) c.args.w c.args.p c.reach-2.result = reach_back c.args.g.now.ahead.rows c.args.g.now.back.rows c.args.w c.args.p c.reach-2.result c.args.g.now.reversed c.reach-2.ensures in
    group_of_reach (HasArc c.args.g.now.ahead.rows) c.args.w c.both.result c.reach.result c.reach-2.result c.args.p c.requires c.reach.ensures into c.both.ensures.members

pub returns-clause-own : goal.returns-clause-own
returns-clause-own c = (c.both.ensures.members c.args.p).1 (c.reach.ensures.all c.args.p (here c.requires), c.reach-2.ensures.all c.args.p (here c.requires))
