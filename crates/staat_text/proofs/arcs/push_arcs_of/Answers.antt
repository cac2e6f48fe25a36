use Rattle.std.proofs.Common.{◌∙◌, ap, sym, true≢false}
use Rattle.staat_text.specs.CellTexts.{arc_in}
use Rattle.staat_text.proofs.GraphLines.{arc_absent, arc_written}
use Rattle.staat_text.proofs.arcs.push_arcs_of.Goals as goal
use Rattle.staat_text.proofs.arcs.push_arcs_of.Goals.{then-has+in_ok-push_in, else-has}

pub loop-b-preserved : goal.loop-b-preserved
loop-b-preserved c =
    let arcs = c.arcs_from-targets.ensures.members c.loop-b.b in
    elim c.if-has.branch [
      | then-has+in_ok-push_in w ↦ arc_written (arc_in c.args.form) c.args.g.now.rows c.args.a c.loop-b.b _ _ _ c.loop-b.invariant
          (arcs.0 (sym w.if-has.ensures)) (ap (λ v. v.items) w.text-is ∙ w.in_ok-push_in.ensures)
      | else-has w ↦ arc_absent (arc_in c.args.form) c.args.g.now.rows c.args.a c.loop-b.b _ _ _ c.loop-b.invariant
          (λ arc. true≢false (sym (arcs.1 arc) ∙ sym w.if-has.ensures)) (ap (λ v. v.items) w.text-is)
    ]
