use Rattle.std.proofs.Common.{◌*◌, ◌≤◌, arith, sym, ◌∙◌}
use Rattle.std.proofs.Math.Nat.{mul-le-mul}
use Rattle.staat_ring.proofs.StopReading.{circle_small, entries_end, entry_is, plane_ahead}
use Rattle.staat_ring.proofs.rings.Rings.entry.Goals as goal

pub returns-then-at-node : goal.returns-then-at-node
returns-then-at-node c = λ m s at node i here. entries_end c.self.inside.planes c.self.inside.count c.self.inside.order.items c.self.inside.arrays c.args.self.now c.self.view_is c.self.invariant.arrays c.sizes.ensures.circles c.sizes.ensures.vertices c.args.circle m s at i c.args.at here (c.if-at-node.true ∙ sym node)

pub overflow_mul-result : goal.overflow_mul-result
overflow_mul-result c =
    let few = c.self.invariant.arrays.few in
    let small = circle_small c.self.inside.planes c.self.inside.count c.self.inside.order.items c.self.inside.arrays c.args.self.now c.self.view_is c.self.invariant.arrays c.sizes.ensures.circles c.sizes.ensures.vertices c.args.circle c.requires.stop.place c.requires.stop.stop c.requires.stop.at in
    let product : c.args.circle * c.self.inside.planes ≤ 1024 * 1024 = mul-le-mul (let a : c.args.circle ≤ 1024 = omega (arith, small, few) in a) few in
    omega (arith, product)

pub overflow_sub-result : goal.overflow_sub-result
overflow_sub-result c = plane_ahead c.self.inside.planes c.self.inside.count c.self.inside.order.items c.self.inside.arrays c.args.self.now c.self.view_is c.self.invariant.arrays c.sizes.ensures.circles c.sizes.ensures.vertices c.args.circle c.requires.stop.place c.requires.stop.stop c.requires.stop.at c.requires.entry c.args.at c.requires.here (λ e. c.if-at-node.false (e ∙ c.requires.stop.is))

pub returns : goal.returns
returns c = λ m s at node i here. entry_is c.self.inside.planes c.self.inside.count c.self.inside.order.items c.self.inside.arrays c.args.self.now c.self.view_is c.self.invariant.arrays c.sizes.ensures.circles c.sizes.ensures.vertices c.args.circle m s at i c.args.at here (λ e. c.if-at-node.false (e ∙ node))
