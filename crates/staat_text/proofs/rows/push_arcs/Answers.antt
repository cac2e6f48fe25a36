use Rattle.std.proofs.Common.{length, map}
use Rattle.staat_graph.specs.Rows.{row_word}
use Rattle.staat_text.specs.GraphTexts.{arc_line}
use Rattle.staat_text.proofs.GraphLines.{row_written}
use Rattle.staat_text.proofs.rows.push_arcs.Goals as goal

pub loop-a-preserved : goal.loop-a-preserved
loop-a-preserved c = row_written arc_line (map row_word c.args.rows.now) c.loop-a.a (length c.args.rows.now) _ _ _ c.loop-a.invariant c.in_ok-push_arcs_from.ensures
