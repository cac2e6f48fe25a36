use Rattle.std.proofs.Common.{◌∙◌, ℕ, List, ap, arith, subst, sym}
use Rattle.staat_cells.specs.CellGraphs.{IsCellGraph}
use Rattle.staat_cells.specs.Compositions.{entry_of}
use Rattle.staat_text.specs.CellTexts.{line_with, short_arcs}
use Rattle.staat_text.specs.GraphTexts.{arcs_of}
use Rattle.staat_text.proofs.CellLines.{cells_all, cells_more}
use Rattle.staat_text.proofs.cells.hold_cells.Goals as goal

pub loop-cell-preserved : goal.loop-cell-preserved
loop-cell-preserved c = record {
  room =
      let long = c.in_ok-hold.ensures.long in
      let before = c.loop-cell.invariant.room in
      let fits = c.as_slice-in-loop-cell.type_inv.0 in
      omega (arith, long, before, fits);
  so_far = λ t tells.
      cells_more t c.args.parts c.loop-cell.cell-index c.args.cells.now c.cell-item.result c.graph_of-g.result.rows c.as_slice-in-loop-cell.result.now
      c.args.held.now c.loop-cell.held c.hold.new.held c.loop-cell-test.true c.cell-item.is (c.loop-cell.invariant.so_far t tells)
      (subst (λ s. IsCellGraph t s c.graph_of-g.result.rows) c.as_slice.ensures (c.graph_of-g.ensures.table t tells))
      (c.as_slice-in-loop-cell.ensures.value ∙ c.in_ok-write_cell.ensures
      ∙ ap (line_with (entry_of c.cell-item.result)) (c.deref.ensures.value ∙ c.in_ok-renew_arcs.ensures.arcs)) c.in_ok-hold.ensures.more;
  same = c.in_ok-renew_arcs.ensures.arcs
      ∙ ap (λ (rows : List ℕ). short_arcs (arcs_of rows c.args.parts)) (sym c.in_ok-renew_arcs.ensures.last);
}

pub returns : goal.returns
returns c = λ t tells.
    cells_all t c.args.parts c.loop-cell.cell-index c.args.cells.now c.args.held.now c.loop-cell.held c.loop-cell-test.false
    (c.loop-cell.invariant.so_far t tells)
