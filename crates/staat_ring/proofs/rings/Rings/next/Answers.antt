use Rattle.std.proofs.Common.{◌≡◌, ◌+◌, ◌%◌, ◌<◌, arith, ap, sym, subst, ◌∙◌, get_or, length}
use Rattle.std.proofs.Math.Nat.{mod_self, mod-eq_of_lt}
use Rattle.std.specs.Prelude.{Some, slice_get}
use Rattle.std.proofs.lemmas.Option.{slice_get-get_or, slice_get_within}
use Rattle.staat_ring.specs.Rings.{RingStop}
use Rattle.staat_ring.proofs.StopReading.{circle_small, few_stops, first_is, node_small, stops_end, stops_go_on}
use Rattle.staat_ring.proofs.rings.Rings.next.Goals as goal

pub next_vertex-next-requires : goal.next_vertex-next-requires
next_vertex-next-requires c = let (s, at, is) = c.requires in subst (λ v. v < length c.self.inside.arrays.circles.next) is (node_small c.self.inside.planes c.self.inside.count c.self.inside.order.items c.self.inside.arrays c.args.self.now c.self.view_is c.self.invariant.arrays c.sizes.ensures.circles c.sizes.ensures.vertices c.args.circle c.args.place s at)

pub head_of-head-requires-clause-circle : goal.head_of-head-requires-clause-circle
head_of-head-requires-clause-circle c = let (s, at, is) = c.requires in circle_small c.self.inside.planes c.self.inside.count c.self.inside.order.items c.self.inside.arrays c.args.self.now c.self.view_is c.self.invariant.arrays c.sizes.ensures.circles c.sizes.ensures.vertices c.args.circle c.args.place s at

pub overflow_add-result : goal.overflow_add-result
overflow_add-result c =
    let (s, at, is) = c.requires in
    let few = few_stops c.self.inside.planes c.self.inside.count c.self.inside.order.items c.self.inside.arrays c.args.self.now c.self.view_is c.self.invariant.arrays c.sizes.ensures.circles c.sizes.ensures.vertices c.args.circle c.args.place s at in
    let lt = slice_get_within at.ring.stops c.args.place s at.is in
    omega (arith, few, lt)

pub returns-then-next-head : goal.returns-then-next-head
returns-then-next-head c = λ s at node.
    let lt = slice_get_within at.ring.stops c.args.place s at.is in
    let end = stops_end c.self.inside.planes c.self.inside.count c.self.inside.order.items c.self.inside.arrays c.args.self.now c.self.view_is c.self.invariant.arrays c.sizes.ensures.circles c.sizes.ensures.vertices c.args.circle c.args.place s at c.head_of-head.result c.head_of-head.ensures.is
    (ap (λ v. get_or c.self.inside.arrays.circles.next v 0) node ∙ (sym c.next_vertex-next.ensures ∙ c.if-next-head.true)) in
    let z : 0 ≡ (c.args.place + 1) % length at.ring.stops = sym (ap (λ k. k % length at.ring.stops) end ∙ mod_self (length at.ring.stops)) in
    let t : RingStop = get_or at.ring.stops 0 s in
    let there = slice_get-get_or at.ring.stops 0 s (omega (arith, lt)) in
    let first = first_is c.self.inside.planes c.self.inside.count c.self.inside.order.items c.self.inside.arrays c.args.self.now c.self.view_is c.self.invariant.arrays c.sizes.ensures.circles c.sizes.ensures.vertices c.args.circle t (record { ring = at.ring; listed = at.listed; plane = at.plane; is = there }) c.head_of-head.result c.head_of-head.ensures.is in
    (t, subst (λ m. slice_get at.ring.stops m ≡ Some t) z there, sym (c.next_vertex.ensures ∙ first), z)

pub returns-else-next-head : goal.returns-else-next-head
returns-else-next-head c = λ s at node.
    let here = ap (λ v. get_or c.self.inside.arrays.circles.next v 0) node in
    let (t, e, q) = stops_go_on c.self.inside.planes c.self.inside.count c.self.inside.order.items c.self.inside.arrays c.args.self.now c.self.view_is c.self.invariant.arrays c.sizes.ensures.circles c.sizes.ensures.vertices c.args.circle c.args.place s at c.head_of-head.result c.head_of-head.ensures.is (λ h. c.if-next-head.false (c.next_vertex-next.ensures ∙ (sym here ∙ h))) in
    let same : c.args.place + 1 ≡ (c.args.place + 1) % length at.ring.stops = sym (mod-eq_of_lt (slice_get_within at.ring.stops (c.args.place + 1) t e)) in
    (t, subst (λ m. slice_get at.ring.stops m ≡ Some t) same e, q ∙ (here ∙ sym c.next_vertex-next.ensures), same)
