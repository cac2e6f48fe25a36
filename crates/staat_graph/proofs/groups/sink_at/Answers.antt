use Rattle.std.proofs.Common.{refl, sym, true≢false}
use Rattle.staat_model.specs.Bridges.{Back}
use Rattle.staat_graph.specs.Graphs.{HasArc, here, IsReach}
use Rattle.staat_graph.proofs.Reaching.{sink_from, sink_turns}
use Rattle.staat_graph.proofs.Walking.{reach_back}
use Rattle.staat_graph.proofs.groups.sink_at.Goals as goal

pub returns-then-within : goal.returns-then-within
returns-then-within c =
    let into : IsReach (Back (HasArc c.args.g.now.ahead.rows)) c.args.w c.args.p c.reach.result = reach_back c.args.g.now.ahead.rows c.args.g.now.back.rows c.args.w c.args.p c.reach.result c.args.g.now.reversed c.reach.ensures in (
      sink_from (HasArc c.args.g.now.ahead.rows) c.args.w c.args.p c.reach-reached.result c.reach.result c.requires c.reach-reached.ensures into (c.if-within.ensures.0 refl),
      c.reach-reached.ensures.all c.args.p (here c.requires),
    )

pub returns-else-within : goal.returns-else-within
returns-else-within c t sink h =
    let into : IsReach (Back (HasArc c.args.g.now.ahead.rows)) c.args.w c.args.p c.reach.result = reach_back c.args.g.now.ahead.rows c.args.g.now.back.rows c.args.w c.args.p c.reach.result c.args.g.now.reversed c.reach.ensures in
    true≢false (sym (c.if-within.ensures.1 (sink_turns (HasArc c.args.g.now.ahead.rows) c.args.w t c.args.p c.reach-reached.result c.reach.result sink h c.reach-reached.ensures into)))
