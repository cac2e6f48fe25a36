use Rattle.staat_cells.specs.Batches.{HasLeft}
use Rattle.staat_cells.proofs.GraphRows.{row_with}
use Rattle.staat_cells.proofs.joined_batches.row_after.Goals as goal

pub returns : goal.returns
returns c = row_with c.args.row c.args.arc.now.b c.word_without-left.result (HasLeft c.args.arc.now c.args.outside) c.requires
    c.word_without-left.ensures
