use Rattle.std.proofs.Common.{arith, take, rules}
use Rattle.staat_ring.proofs.Unlinking.{flags_unlinked, has_room, is_small, unlink_invariant, unlink_is}
use Rattle.staat_ring.proofs.Made.{unlinked_made}
use Rattle.staat_ring.proofs.rings.Rings.unlink.Goals as goal

pub take_plane-requires-clause-plane : goal.take_plane-requires-clause-plane
take_plane-requires-clause-plane c = is_small c.self.inside.planes (take c.self.inside.count c.self.inside.order.items) c.self.inside.arrays c.args.self.now c.args.plane c.self.view_is c.requires.linked

pub invariant_of-self : goal.invariant_of-self
invariant_of-self c = search (rules, flags_unlinked, has_room, is_small, unlink_invariant)

pub returns-clause-is : goal.returns-clause-is
returns-clause-is c = unlink_is c.self.inside.planes c.self.inside.count c.self.inside.order.items c.self.inside.arrays c.take_plane.new.self c.args.self.now c.args.plane c.self.invariant.arrays c.self.view_is c.requires.linked c.take_plane.ensures.arrays

pub returns-clause-made : goal.returns-clause-made
returns-clause-made c = search (rules, unlinked_made, unlink_is)

pub index_mut-requires-2 : goal.index_mut-requires-2
index_mut-requires-2 c =
    let small = is_small c.self.inside.planes (take c.self.inside.count c.self.inside.order.items) c.self.inside.arrays c.args.self.now c.args.plane c.self.view_is c.requires.linked in
    let size = c.self.invariant.flags.size in
    omega (arith, small, size)
