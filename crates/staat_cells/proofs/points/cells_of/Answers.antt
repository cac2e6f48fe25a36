use Rattle.staat_cells.specs.Compositions.{no_incidence}
use Rattle.staat_cells.proofs.Composing.{copied_all, copied_more}
use Rattle.staat_cells.proofs.points.cells_of.Goals as goal

pub loop-x-preserved : goal.loop-x-preserved
loop-x-preserved c =
    copied_more c.args.cells.now c.args.incidences.now c.loop-x.x-index c.loop-x.found.items c.push.new.self.items
    c.in_ok-copied.field-0 c.index-cells-x.result c.loop-x-test.true
    (c.requires c.loop-x.x-index no_incidence c.loop-x-test.true) c.index-cells-x.is c.in_ok-copied.ensures
    c.in_ok-push.ensures.items c.loop-x.invariant

pub returns : goal.returns
returns c =
    copied_all c.args.cells.now c.args.incidences.now c.loop-x.x-index c.loop-x.found.items c.loop-x-test.false
    c.loop-x.invariant
