use Rattle.std.proofs.Common.{arith, rules}
use Rattle.staat_ring.proofs.Unlinking.{flags_relinked, last_small, relink_invariant, relink_kept, some, split_is}
use Rattle.staat_ring.proofs.Made.{relinked_made}
use Rattle.staat_ring.proofs.rings.Rings.relink.Goals as goal

pub give_plane-requires-clause-plane : goal.give_plane-requires-clause-plane
give_plane-requires-clause-plane c = last_small c.self.inside.planes c.self.inside.count c.self.inside.order.items c.self.inside.arrays c.args.self.now c.args.plane c.self.invariant.arrays c.self.view_is c.requires.others c.requires.before c.requires.is

pub invariant_of-self : goal.invariant_of-self
invariant_of-self c = search (rules, flags_relinked, last_small, relink_invariant, some, split_is)

pub returns-clause-is : goal.returns-clause-is
returns-clause-is c = relink_kept c.self.inside.planes c.self.inside.count c.self.inside.order.items c.self.inside.arrays c.args.self.now c.args.plane c.self.invariant.arrays c.self.view_is c.requires.others c.requires.before c.requires.is c.give_plane.new.self c.give_plane.ensures.arrays

pub returns-clause-made : goal.returns-clause-made
returns-clause-made c = λ planes made. relinked_made planes c.args.plane c.args.self.now _
    (relink_kept c.self.inside.planes c.self.inside.count c.self.inside.order.items c.self.inside.arrays c.args.self.now c.args.plane c.self.invariant.arrays c.self.view_is c.requires.others c.requires.before c.requires.is c.give_plane.new.self c.give_plane.ensures.arrays) made

pub index_mut-requires : goal.index_mut-requires
index_mut-requires c =
    let small = last_small c.self.inside.planes c.self.inside.count c.self.inside.order.items c.self.inside.arrays c.args.self.now c.args.plane c.self.invariant.arrays c.self.view_is c.requires.others c.requires.before c.requires.is in
    let size = c.self.invariant.flags.size in
    omega (arith, small, size)
