use Rattle.staat_text.specs.CellTexts.{arc_in}
use Rattle.staat_text.proofs.GraphLines.{row_written}
use Rattle.staat_text.proofs.arcs.push_arcs_among.Goals as goal

pub loop-a-preserved : goal.loop-a-preserved
loop-a-preserved c = row_written (arc_in c.args.form) c.args.g.now.rows c.loop-a.a c.args.parts _ _ _ c.loop-a.invariant c.in_ok-push_arcs_of.ensures
