use Rattle.staat_model.specs.Cones.{IsAbove}
use Rattle.staat_cone.proofs.PairLemmas.{refused}
use Rattle.staat_cone.proofs.EdgeLemmas.{edge_added, edge_not_added}
use Rattle.staat_cone.proofs.edges.add_edge.Goals as goal

pub returns-in_ok-push : goal.returns-in_ok-push
returns-in_ok-push c =
    edge_added c.args.vs.now c.args.out.now.items c.push.new.self.items c.args.f (c.is_above.ensures.0 c.if-is_above.true) c.in_ok-push.ensures.items

pub returns-else-is_above : goal.returns-else-is_above
returns-else-is_above c =
    edge_not_added c.args.vs.now c.args.out.now.items c.args.f (refused c.is_above.result (IsAbove c.args.f c.args.vs.now) c.is_above.ensures c.if-is_above.false)
