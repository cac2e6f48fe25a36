use Rattle.std.proofs.Common.{◌<◌, ◌∙◌, arith, false, length, sym}
use Rattle.std.proofs.lemmas.List.{get_or_default}
use Rattle.staat_ring.proofs.StopReading.{flag_linked, linked_flag, not_below}
use Rattle.staat_ring.proofs.rings.Rings.is_linked.Goals as goal
use Rattle.staat_vec.proofs.Naturals.{lt_test}

pub returns-then-plane-self : goal.returns-then-plane-self
returns-then-plane-self c =
    let flag = λ (h : c.args.plane < length c.self.inside.linked.items). c.index.ensures ∙ get_or_default c.self.inside.linked.items c.args.plane c.index.result.now false h in
    let size = c.self.invariant.flags.size in
    let small = c.if-plane-self.true in
    let is = flag (omega (arith, size, small)) in (
      (λ t. flag_linked c.self.inside.planes c.self.inside.count c.self.inside.order.items c.self.inside.arrays c.args.self.now c.self.view_is c.self.invariant.arrays c.self.inside.linked.items c.self.invariant.flags c.args.plane c.if-plane-self.true (sym is ∙ t)),
      (λ l. is ∙ (linked_flag c.self.inside.planes c.self.inside.count c.self.inside.order.items c.self.inside.arrays c.args.self.now c.self.view_is c.self.invariant.arrays c.self.inside.linked.items c.self.invariant.flags c.args.plane l).1),
    )

pub returns-else-plane-self : goal.returns-else-plane-self
returns-else-plane-self c = (
  (λ t. absurd (not_below c.args.plane c.self.inside.planes c.if-plane-self.false t)),
  (λ l. lt_test c.args.plane c.self.inside.planes (linked_flag c.self.inside.planes c.self.inside.count c.self.inside.order.items c.self.inside.arrays c.args.self.now c.self.view_is c.self.invariant.arrays c.self.inside.linked.items c.self.invariant.flags c.args.plane l).0),
)
