use Rattle.std.proofs.Common.{ℕ, ◌<◌, ◌+◌, ◌∙◌, Bool, List, arith, subst, sym, true≢false}
use Rattle.staat_model.specs.Sets.{Has}
use Rattle.staat_vec.specs.declared.vector.V3.{V3}
use Rattle.staat_pairs.specs.Searches.{HasPlane, HasPlaneOf, arc_of}
use Rattle.staat_planes.specs.MarkedPlanes.{AddsMarks}
use Rattle.staat_planes.proofs.Marking.{IsBelow, adds_as, adds_more, adds_skip, adds_where}
use Rattle.staat_planes.proofs.table.PlaneTable.mark_in.Goals.{then-has, else-has}
use Rattle.staat_planes.proofs.table.PlaneTable.mark_in.Goals as goal

pub loop-a-preserved : goal.loop-a-preserved
loop-a-preserved c =
    let t = c.args.self.now in
    let P : ℕ → V3 → Type 0 = λ a n. Has c.args.w a × HasPlaneOf t c.args.w n a in
    elim c.if-has.branch [
      | then-has w ↦ subst (λ (ms : List Bool). AddsMarks t.planes (IsBelow P (c.loop-a.a + 1)) c.args.marks.now ms) (sym w.marks-is)
          (adds_more t.planes P c.loop-a.a c.args.marks.now c.loop-a.marks w.mark_of.new.marks c.loop-a.invariant
          (adds_where t.planes (Has c.args.w c.loop-a.a) (λ n. HasPlaneOf t c.args.w n c.loop-a.a) c.loop-a.marks w.mark_of.new.marks (sym c.has.ensures ∙ w.if-has.true) w.mark_of.ensures))
      | else-has w ↦ subst (λ (ms : List Bool). AddsMarks t.planes (IsBelow P (c.loop-a.a + 1)) c.args.marks.now ms) (sym w.marks-is)
          (adds_skip t.planes P c.loop-a.a c.args.marks.now c.loop-a.marks c.loop-a.invariant
          (λ n p. true≢false (sym p.0 ∙ (sym c.has.ensures ∙ w.if-has.false))))
    ]

pub returns : goal.returns
returns c =
    let t = c.args.self.now in
    adds_as t.planes (IsBelow (λ a n. Has c.args.w a × HasPlaneOf t c.args.w n a) c.loop-a.a) (λ n. HasPlane t c.args.w n) c.args.marks.now c.loop-a.marks c.loop-a.invariant
    (λ n h. let of = h.holds.1 in record { arc = arc_of h.j of.between.i of.b of.between.j; a_in = h.holds.0; b_in = of.b_in; order = of.order; across = of.between.across; plane = of.between.plane })
    (λ n h. record {
      j = h.arc.a;
      lt = (let lt : h.arc.a < 32 = c.bits-bits.ensures.small h.arc.a h.a_in in omega arith);
      holds = (h.a_in, record { b = h.arc.b; b_in = h.b_in; order = h.order; between = record { i = h.arc.i; j = h.arc.j; across = h.across; plane = h.plane } });
    })
