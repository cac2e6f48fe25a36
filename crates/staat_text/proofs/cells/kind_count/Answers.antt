use Rattle.std.proofs.Common.{◌∙◌, arith, false, sym, true}
use Rattle.staat_text.proofs.CellLines.{count_all, counted}
use Rattle.staat_text.proofs.cells.kind_count.Goals as goal
use Rattle.staat_text.proofs.cells.kind_count.Goals.{then-same_kind, else-same_kind}

pub loop-cell-preserved : goal.loop-cell-preserved
loop-cell-preserved c =
    let count = counted c.args.kind c.args.cells.now c.loop-cell.cell-index c.cell-item.result in
    let so_far = c.loop-cell.invariant in
    elim c.if-same_kind.branch [
      | then-same_kind w ↦
          let one = count true c.loop-cell-test.true c.cell-item.is (sym c.same_kind.ensures ∙ w.if-same_kind.true) in
          record { is = omega (arith, w.count-is, so_far.is, one); most = omega (arith, w.count-is, so_far.most) }
      | else-same_kind w ↦
          let none = count false c.loop-cell-test.true c.cell-item.is (sym c.same_kind.ensures ∙ w.if-same_kind.false) in
          record { is = omega (arith, w.count-is, so_far.is, none); most = omega (arith, w.count-is, so_far.most) }
    ]

pub returns : goal.returns
returns c = c.loop-cell.invariant.is ∙ count_all c.args.kind c.args.cells.now c.loop-cell.cell-index c.loop-cell-test.false
