use Rattle.std.proofs.Common.{◌≤◌, arith, length, subst, sym}
use Rattle.staat_model.specs.declared.tree.Kind.TheVariants.{Open}
use Rattle.staat_planes.specs.SetPlanes.{ArePlanesIn}
use Rattle.staat_cells.specs.FirstCell.{first_entry}
use Rattle.staat_cells.proofs.SomeCells.{some_cells}
use Rattle.staat_plan.proofs.CellStepLemmas.{cell_some, first_step_is}
use Rattle.staat_plan.proofs.cell_steps.first_open_step.Goals as goal

pub returns : goal.returns
returns c parts made =
    let w = c.args.w in
    let planes = c.as_slice.result.now in
    let d = c.first_open-d.result in
    let entry = c.first_open-d.ensures.entry in
    let are : ArePlanesIn c.args.table.now w planes =
    subst (ArePlanesIn c.args.table.now w) (sym c.as_slice.ensures.value) c.in_ok-planes.ensures in
    let few : length planes ≤ 256 = (let le = are.few in let most = c.requires.few in omega (arith, le, most)) in
    let (cells, all) = some_cells planes are.rules few in
    let moves = c.in-Some.ensures.moves parts d (cell_some planes are.rules Open (first_entry planes d) entry)
    (c.graph_in.ensures.shows parts made) in
    first_step_is parts w planes (are.are parts made) cells all are.rules d c.in-Some.moved entry moves.0 moves.1
