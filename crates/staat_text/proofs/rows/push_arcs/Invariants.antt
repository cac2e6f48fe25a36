use Rattle.std.proofs.Common.{◌≡◌, ◌++◌, length}
use Rattle.std.specs.Prelude.{flat_map, map}
use Rattle.std.specs.List.{range_with_len}
use Rattle.staat_graph.specs.Rows.{row_word}
use Rattle.staat_text.specs.GraphTexts.{arc_line, arcs_from}
use Rattle.staat_text.proofs.rows.push_arcs.Given as goal

abbrev pub invariant-loop-a : goal.invariant-loop-a
invariant-loop-a l = l.text.items ≡ l.initial.text.items ++ flat_map arc_line (flat_map (arcs_from (map row_word l.rows) (length l.rows)) (range_with_len 0 l.a))
