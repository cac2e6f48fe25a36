use Rattle.std.proofs.{Common.{[], subst, sym}, lemmas.List.Elements.{All-head, All-map, All-more}}
use Rattle.staat_vec.proofs.ListLaws.{All-taken}
use Rattle.staat_model.specs.{Cells.CellEntry, Outcomes.Serves}
use Rattle.staat_cells.specs.{Compositions.entry_of, declared.cell.Cell.Cell}
use Rattle.staat_cells.proofs.WholeLists.{of_cells}
use Rattle.staat_plan.specs.CellSteps.{IsTableCell}
use Rattle.staat_plan.proofs.CellStepLemmas.{first_cell_at}
use Rattle.staat_plan.proofs.cell_steps.step_among.Goals as goal

pub step_in-requires-clause-cell : goal.step_in-requires-clause-cell
step_in-requires-clause-cell c =
    subst (λ (x : Cell). IsTableCell c.args.table.now (entry_of x)) (sym c.cell-item.is)
    (of_cells (IsTableCell c.args.table.now) c.args.cells.now c.requires.cells c.loop-cell.cell-index c.cell-item.result
    c.loop-cell-test.true)

pub returns-in-Some : goal.returns-in-Some
returns-in-Some c parts made =
    first_cell_at parts c.args.table.now.of c.args.cells.now c.loop-cell.cell-index c.cell-item.result c.in-Some.found
    c.loop-cell-test.true c.cell-item.is (c.loop-cell.invariant parts made) (c.in-Some.ensures parts made)

pub loop-cell-preserved : goal.loop-cell-preserved
loop-cell-preserved c parts made =
    let P = λ (x : Cell). Serves parts c.args.table.now.of x.d → ⊥ in
    All-more P c.args.cells.now c.loop-cell.cell-index c.cell-item.result c.loop-cell-test.true
    (c.loop-cell.invariant parts made) (subst P c.cell-item.is
    (All-head (λ (x : CellEntry). Serves parts c.args.table.now.of x.d → ⊥) (entry_of c.cell-item.result) []
    (c.in_default.ensures parts made)))

pub returns : goal.returns
returns c parts made =
    let P = λ (x : CellEntry). Serves parts c.args.table.now.of x.d → ⊥ in
    All-map P entry_of c.args.cells.now (All-taken (λ (x : Cell). P (entry_of x)) c.args.cells.now c.loop-cell.cell-index
    c.loop-cell-test.false (c.loop-cell.invariant parts made))
