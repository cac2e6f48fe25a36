use Rattle.std.proofs.Common.{◌≢◌, subst}
use Rattle.staat_vec.specs.Vectors.{origin}
use Rattle.staat_cone.specs.Pairs.{Adds}
use Rattle.staat_cone.proofs.EdgeLemmas.{edges_added, edges_not_added, IsOnly}
use Rattle.staat_cone.proofs.PairLemmas.{refused}
use Rattle.staat_cone.proofs.edges.add_edges.Goals as goal

pub returns-in_ok-add_edge-2 : goal.returns-in_ok-add_edge-2
returns-in_ok-add_edge-2 c =
    let vs = c.args.vs.now in
    let old = c.add_edge.new.out.items in
    let new = c.add_edge-then-is_wall.new.out.items in
    edges_added vs c.args.out.now.items old new c.args.g c.args.h c.cross_diff-f.result c.cross_diff-f.ensures.value (c.is_wall.ensures.0 c.if-is_wall.true) c.in_ok-add_edge.ensures
    (subst (λ f. Adds (IsOnly vs f) old new) c.neg.ensures.value c.in_ok-add_edge-2.ensures)

pub returns-else-is_wall : goal.returns-else-is_wall
returns-else-is_wall c =
    let f = c.cross_diff-f.result in
    edges_not_added c.args.vs.now c.args.out.now.items c.args.g c.args.h f c.cross_diff-f.ensures.value (refused c.is_wall.result (f ≢ origin) c.is_wall.ensures c.if-is_wall.false)
