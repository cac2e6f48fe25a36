use Rattle.std.proofs.Common.{◌∙◌}
use Rattle.staat_ring.proofs.StopReading.{linked_small, first_is}
use Rattle.staat_ring.proofs.rings.Rings.first.Goals as goal

pub head_of-requires-clause-circle : goal.head_of-requires-clause-circle
head_of-requires-clause-circle c = linked_small c.self.inside.planes c.self.inside.count c.self.inside.order.items c.self.inside.arrays c.args.self.now c.self.view_is c.self.invariant.arrays c.args.circle c.requires

pub returns : goal.returns
returns c = λ s at. c.next_vertex.ensures ∙ first_is c.self.inside.planes c.self.inside.count c.self.inside.order.items c.self.inside.arrays c.args.self.now c.self.view_is c.self.invariant.arrays c.sizes.ensures.circles c.sizes.ensures.vertices c.args.circle s at c.head_of.result c.head_of.ensures.is
