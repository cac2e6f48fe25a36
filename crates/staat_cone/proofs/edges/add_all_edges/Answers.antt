use Rattle.staat_vec.specs.Vectors.{origin}
use Rattle.staat_cone.specs.Pairs.{IsEdge}
use Rattle.staat_cone.proofs.EdgeLemmas.{all_edges}
use Rattle.staat_cone.proofs.PairLists.{Adds-more, Adds-all}
use Rattle.staat_cone.proofs.edges.add_all_edges.Goals as goal

pub loop-h-preserved : goal.loop-h-preserved
loop-h-preserved c = Adds-more (λ h. IsEdge c.args.vs.now h c.args.g) c.args.vs.now c.loop-h.h-index origin c.args.out.now.items c.loop-h.out.items c.add_edges.new.out.items c.loop-h-test.true c.loop-h.invariant c.in_ok-add_edges.ensures

pub returns : goal.returns
returns c =
    let vs = c.args.vs.now in
    let g = c.args.g in
    all_edges vs c.args.out.now.items c.loop-h.out.items g
    (Adds-all (λ h. IsEdge vs h g) vs c.loop-h.h-index c.args.out.now.items c.loop-h.out.items c.loop-h-test.false c.loop-h.invariant)
