use Rattle.std.proofs.Common.{◌≡◌, ◌++◌}
use Rattle.std.specs.Prelude.{flat_map}
use Rattle.std.specs.List.{range_with_len}
use Rattle.staat_text.specs.CellTexts.{arc_in}
use Rattle.staat_text.specs.GraphTexts.{arcs_from}
use Rattle.staat_text.proofs.arcs.push_arcs_among.Given as goal

abbrev pub invariant-loop-a : goal.invariant-loop-a
invariant-loop-a l = l.text.items ≡ l.initial.text.items ++ flat_map (arc_in l.form) (flat_map (arcs_from l.g.rows l.parts) (range_with_len 0 l.a))
