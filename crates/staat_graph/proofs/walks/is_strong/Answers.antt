use Rattle.std.proofs.Common.{refl}
use Rattle.staat_model.specs.Bridges.{Back}
use Rattle.staat_graph.specs.Graphs.{HasArc, IsReach}
use Rattle.staat_graph.proofs.Walking.{joined, reach_back, turned, turned_back}
use Rattle.staat_graph.proofs.walks.is_strong.Goals as goal

pub returns-then-within : goal.returns-then-within
returns-then-within c =
    let into : IsReach (Back (HasArc c.args.g.now.rows)) c.args.w c.least-p.result c.reach-then-within.result = reach_back c.args.g.now.rows c.reversed.result.rows c.args.w c.least-p.result c.reach-then-within.result c.reversed.ensures c.reach-then-within.ensures in (
      λ e a b ha hb. joined (turned_back (into.walks a (c.within-then-within.ensures.0 e a ha))) (c.reach.ensures.walks b (c.if-within.ensures.0 refl b hb)),
      λ strong. c.within-then-within.ensures.1 (λ a ha. into.all a (turned (strong a c.least-p.result ha c.least-p.ensures.least.has))),
    )
