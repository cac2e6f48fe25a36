use Rattle.std.proofs.Common.{arith, ap, sym, ◌∙◌, get_or}
use Rattle.staat_ring.proofs.StopReading.{first_cursor, node_small}
use Rattle.staat_ring.proofs.rings.Rings.first_entry.Goals as goal

pub next_entry-requires : goal.next_entry-requires
next_entry-requires c =
    let small = node_small c.self.inside.planes c.self.inside.count c.self.inside.order.items c.self.inside.arrays c.args.self.now c.self.view_is c.self.invariant.arrays c.sizes.ensures.circles c.sizes.ensures.vertices c.requires.0 c.requires.1.place c.requires.1.stop c.requires.1.at in
    let same = c.sizes.ensures.circles in
    let same_vertices = c.sizes.ensures.vertices in
    let node = c.requires.1.is in
    omega (arith, small, same, same_vertices, node)

pub returns : goal.returns
returns c = λ d m s at node. c.next_entry.ensures ∙ (ap (λ v. get_or c.self.inside.arrays.vertices.next v 0) (sym node) ∙ first_cursor c.self.inside.planes c.self.inside.count c.self.inside.order.items c.self.inside.arrays c.args.self.now c.self.view_is c.self.invariant.arrays c.sizes.ensures.circles c.sizes.ensures.vertices d m s at)
