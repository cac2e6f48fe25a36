use Rattle.std.proofs.Common.{ℕ, ◌<◌, ◌+◌, ◌∙◌, Bool, List, arith, subst, sym, true≢false}
use Rattle.staat_model.specs.Sets.{Has}
use Rattle.staat_vec.specs.declared.vector.V3.{V3}
use Rattle.staat_pairs.specs.Searches.{HasPlaneBetween, HasPlaneOf}
use Rattle.staat_planes.specs.MarkedPlanes.{AddsMarks}
use Rattle.staat_planes.proofs.Marking.{IsBelow, adds_as, adds_more, adds_skip}
use Rattle.staat_planes.proofs.table.PlaneTable.mark_of.Goals.{then-a-b+then-has, else-a-b, else-a-b-via-then-a-b+else-has, else-a-b-via-else-a-b}
use Rattle.staat_planes.proofs.table.PlaneTable.mark_of.Goals as goal

pub loop-b-preserved : goal.loop-b-preserved
loop-b-preserved c =
    let t = c.args.self.now in
    let P : ℕ → V3 → Type 0 = λ b n. (c.args.a < b) × Has c.args.w b × HasPlaneBetween t n c.args.a b in
    elim c.if-a-b.branch [
      | then-a-b+then-has w ↦ subst (λ (ms : List Bool). AddsMarks t.planes (IsBelow P (c.loop-b.b + 1)) c.args.marks.now ms) (sym w.marks-is)
          (adds_more t.planes P c.loop-b.b c.args.marks.now c.loop-b.marks w.mark_between.new.marks c.loop-b.invariant
          (adds_as t.planes (λ n. HasPlaneBetween t n c.args.a c.loop-b.b) (P c.loop-b.b) c.loop-b.marks w.mark_between.new.marks w.mark_between.ensures (λ n h. (w.if-a-b.true, sym w.has.ensures ∙ w.if-has.true, h)) (λ n p. p.2)))
      | else-a-b w ↦ subst (λ (ms : List Bool). AddsMarks t.planes (IsBelow P (c.loop-b.b + 1)) c.args.marks.now ms) (sym w.marks-is)
          (adds_skip t.planes P c.loop-b.b c.args.marks.now c.loop-b.marks c.loop-b.invariant
          (λ n p. elim w.else-a-b.branch [
            | else-a-b-via-then-a-b+else-has u ↦ true≢false (sym p.1 ∙ (sym u.has.ensures ∙ u.if-has.false))
            | else-a-b-via-else-a-b u ↦ (let lt = p.0 in let le = u.if-a-b.false in omega (arith, lt, le))
          ]))
    ]

pub returns : goal.returns
returns c =
    let t = c.args.self.now in
    adds_as t.planes (IsBelow (λ b n. (c.args.a < b) × Has c.args.w b × HasPlaneBetween t n c.args.a b) c.loop-b.b) (λ n. HasPlaneOf t c.args.w n c.args.a) c.args.marks.now c.loop-b.marks c.loop-b.invariant
    (λ n h. record { b = h.j; b_in = h.holds.1; order = h.holds.0; between = h.holds.2 })
    (λ n h. record { j = h.b; lt = (let lt : h.b < 32 = c.bits-bits.ensures.small h.b h.b_in in omega arith); holds = (h.order, h.b_in, h.between) })
