use Rattle.std.proofs.Common.{◌≡◌, ◌++◌}
use Rattle.std.specs.Prelude.{flat_map}
use Rattle.staat_text.specs.CellTexts.{arc_in}
use Rattle.staat_text.specs.GraphTexts.{arcs_from}
use Rattle.staat_text.proofs.arcs.push_arcs_of.Given as goal

abbrev pub invariant-loop-b : goal.invariant-loop-b
invariant-loop-b l = l.text.items ≡ l.initial.text.items ++ flat_map (arc_in l.form) (arcs_from l.g.rows l.b l.a)
