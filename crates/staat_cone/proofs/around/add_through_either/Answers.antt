use Rattle.staat_vec.specs.Vectors.{det}
use Rattle.staat_cone.proofs.ScanLemmas.{first_is_enough, flat_where_not_off, furthest_added}
use Rattle.staat_cone.proofs.around.add_through_either.Goals as goal

pub returns-in_ok-add_edges-2 : goal.returns-in_ok-add_edges-2
returns-in_ok-add_edges-2 c =
    let ends = c.args.ends in
    furthest_added c.args.vs.now c.args.out.now.items c.add_edges.new.out.items c.add_edges-then-is_off.new.out.items c.args.v ends.0 ends.1 c.requires.ends c.in_ok-add_edges.ensures c.in_ok-add_edges-2.ensures

pub returns-else-is_off : goal.returns-else-is_off
returns-else-is_off c =
    let vs = c.args.vs.now in
    let v = c.args.v in
    let left = c.args.ends.0 in
    let right = c.args.ends.1 in
    let old = c.args.out.now.items in
    let new = c.add_edges.new.out.items in
    first_is_enough vs old new v left right c.requires.ends
    (flat_where_not_off c.is_off.result (det left right v) c.is_off.ensures c.if-is_off.false) c.in_ok-add_edges.ensures
