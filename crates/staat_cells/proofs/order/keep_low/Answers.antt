use Rattle.std.proofs.Common.{◌∙◌, ap, arith}
use Rattle.std.specs.Prelude.{slice_set}
use Rattle.std.proofs.lemmas.List.Edits.{map_over_more}
use Rattle.staat_cells.specs.Mirrors.{lesser}
use Rattle.staat_cells.proofs.order.keep_low.Goals as goal

pub loop-i-preserved : goal.loop-i-preserved
loop-i-preserved c =
    ap (slice_set c.loop-i.incidences.items c.loop-i.i) c.lesser.ensures
    ∙ map_over_more (lesser c.args.sum) c.args.incidences.now.items c.loop-i.incidences.items c.loop-i.i c.index.result.now
    (omega arith) c.loop-i.invariant c.index.ensures
