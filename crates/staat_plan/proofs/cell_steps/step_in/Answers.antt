use Rattle.std.proofs.{Common.{◌∙◌, [], inl, refl, sym}, lemmas.List.Elements.{All-cons, All-nil}}
use Rattle.staat_model.specs.{Cells.CellEntry, Outcomes.Serves}
use Rattle.staat_cells.specs.Compositions.{entry_of}
use Rattle.staat_plan.proofs.cell_steps.step_in.Goals as goal

pub returns-in_default : goal.returns-in_default
returns-in_default c parts made =
    let held = rw c.set.ensures.is at c.in_default.ensures.moves in
    let P = λ (x : CellEntry). Serves parts c.args.table.now.of x.d → ⊥ in
    All-cons P (entry_of c.args.cell.now) [] (held parts c.args.cell.now.d c.requires.cell.some
    (c.graph_of-graph.ensures.shows c.args.table.now parts c.args.cell.now.d c.requires.graphs made
    (c.requires.cell.signs ∙ sym c.as_slice.ensures))) (All-nil P)

pub returns : goal.returns
returns c parts made =
    let moves = rw c.set.ensures.is at c.in-Some.ensures.moves in
    let here = moves parts c.args.cell.now.d c.requires.cell.some
    (c.graph_of-graph.ensures.shows c.args.table.now parts c.args.cell.now.d c.requires.graphs made
    (c.requires.cell.signs ∙ sym c.as_slice.ensures)) in
    record { at = entry_of c.args.cell.now; first = inl (refl, here.0); is = refl; moved = here.1 }
