use Rattle.std.proofs.Common.{◌∙◌, ap, sym, true≢false, length, map}
use Rattle.staat_graph.specs.Rows.{row_word}
use Rattle.staat_graph.proofs.RowLemmas.{arc_mark}
use Rattle.staat_text.specs.GraphTexts.{arc_line}
use Rattle.staat_text.proofs.GraphLines.{arc_absent, arc_written}
use Rattle.staat_text.proofs.rows.push_arcs_from.Goals as goal
use Rattle.staat_text.proofs.rows.push_arcs_from.Goals.{then-has_arc+in_ok-push_arc, else-has_arc}

pub loop-b-preserved : goal.loop-b-preserved
loop-b-preserved c =
    let mark = arc_mark c.args.rows.now c.args.a c.loop-b.b in
    elim c.if-has_arc.branch [
      | then-has_arc+in_ok-push_arc w ↦ arc_written arc_line (map row_word c.args.rows.now) c.args.a c.loop-b.b _ _ _ c.loop-b.invariant
          (mark.1 (c.has_arc.ensures.0 w.if-has_arc.true)) (ap (λ v. v.items) w.text-is ∙ w.in_ok-push_arc.ensures)
      | else-has_arc w ↦ arc_absent arc_line (map row_word c.args.rows.now) c.args.a c.loop-b.b _ _ _ c.loop-b.invariant
          (λ arc. true≢false (sym (c.has_arc.ensures.1 (mark.0 arc)) ∙ w.if-has_arc.false)) (ap (λ v. v.items) w.text-is)
    ]
