use Rattle.std.proofs.Common.{arith}
use Rattle.staat_confirm.proofs.Standing.{end_is, middle_within, node_length, node_sides, split_length}
use Rattle.staat_confirm.proofs.ends.end_at.Goals as goal
use Rattle.staat_vec.proofs.ListLaws.{place_is}

pub bounds-ends-k : goal.bounds-ends-k
bounds-ends-k c =
    let s = node_sides c.args.nodes.now c.args.ends.now c.args.k c.index-nodes-k.result c.in-Split.field-0 c.requires.plan c.requires.behind c.requires.within c.index-nodes-k.is c.in-Split.is in
    (middle_within c.args.nodes.now c.args.ends.now c.args.k c.in-Split.field-0 s).0

pub bounds-ends-ends : goal.bounds-ends-ends
bounds-ends-ends c =
    let s = node_sides c.args.nodes.now c.args.ends.now c.args.k c.index-nodes-k.result c.in-Split.field-0 c.requires.plan c.requires.behind c.requires.within c.index-nodes-k.is c.in-Split.is in
    (middle_within c.args.nodes.now c.args.ends.now c.args.k c.in-Split.field-0 s).1

pub offset_bounds-ends-ends : goal.offset_bounds-ends-ends
offset_bounds-ends-ends c =
    let s = node_sides c.args.nodes.now c.args.ends.now c.args.k c.index-nodes-k.result c.in-Split.field-0 c.requires.plan c.requires.behind c.requires.within c.index-nodes-k.is c.in-Split.is in
    let within = (middle_within c.args.nodes.now c.args.ends.now c.args.k c.in-Split.field-0 s).1 in
    omega (arith, within, c.requires.few, c.requires.count)

pub returns-in-Split : goal.returns-in-Split
returns-in-Split c = λ plan at.
    let s = node_sides c.args.nodes.now c.args.ends.now c.args.k c.index-nodes-k.result c.in-Split.field-0 c.requires.plan c.requires.behind c.requires.within c.index-nodes-k.is c.in-Split.is in
    let e = end_is c.args.nodes.now c.args.ends.now c.args.k c.in-Split.field-0 s in
    let long = split_length c.args.nodes.now c.args.ends.now c.args.k c.in-Split.field-0 s plan at in
    omega (arith, e, long)

pub returns-in_default : goal.returns-in_default
returns-in_default c = λ plan at.
    let one = node_length c.args.nodes.now c.args.k c.index-nodes-k.result (place_is c.args.nodes.now c.args.k c.index-nodes-k.result c.requires.within c.index-nodes-k.is) (λ d e. c.in_default.not-Split d e) plan at in
    omega (arith, one)
