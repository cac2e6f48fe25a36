use Rattle.std.proofs.Common.{◌∙◌}
use Rattle.staat_ring.proofs.StopReading.{circle_nodes, linked_small, short_ring, vertices_are}
use Rattle.staat_ring.proofs.rings.Rings.circle_vertices.Goals as goal

pub head_of-requires-clause-circle : goal.head_of-requires-clause-circle
head_of-requires-clause-circle c = linked_small c.self.inside.planes c.self.inside.count c.self.inside.order.items c.self.inside.arrays c.args.self.now c.self.view_is c.self.invariant.arrays c.args.circle c.requires

pub circle_len-requires-clause-some : goal.circle_len-requires-clause-some
circle_len-requires-clause-some c = (circle_nodes c.self.inside.planes c.self.inside.arrays c.args.circle, short_ring c.self.inside.planes c.self.inside.count c.self.inside.order.items c.self.inside.arrays c.args.self.now c.self.view_is c.self.invariant.arrays c.sizes.ensures.circles c.args.circle c.requires c.head_of.result c.head_of.ensures.is)

pub returns : goal.returns
returns c = λ r listed plane. c.circle_len.ensures (circle_nodes c.self.inside.planes c.self.inside.arrays c.args.circle) (short_ring c.self.inside.planes c.self.inside.count c.self.inside.order.items c.self.inside.arrays c.args.self.now c.self.view_is c.self.invariant.arrays c.sizes.ensures.circles c.args.circle c.requires c.head_of.result c.head_of.ensures.is)
    ∙ vertices_are c.self.inside.planes c.self.inside.count c.self.inside.order.items c.self.inside.arrays c.args.self.now c.self.view_is c.self.invariant.arrays r c.args.circle listed plane
