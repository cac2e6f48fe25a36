use Rattle.std.proofs.Common.{◌≡◌, ◌++◌}
use Rattle.std.specs.Prelude.{flat_map, map}
use Rattle.staat_graph.specs.Rows.{row_word}
use Rattle.staat_text.specs.GraphTexts.{arc_line, arcs_from}
use Rattle.staat_text.proofs.rows.push_arcs_from.Given as goal

abbrev pub invariant-loop-b : goal.invariant-loop-b
invariant-loop-b l = l.text.items ≡ l.initial.text.items ++ flat_map arc_line (arcs_from (map row_word l.rows) l.b l.a)
