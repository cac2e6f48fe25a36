use Rattle.staat_cells.proofs.BatchCones.{parts_batch}
use Rattle.staat_cells.proofs.batches.add_parts.Goals as goal

pub returns : goal.returns
returns c = λ cone at.
    parts_batch c.args.batch.now c.add_arc.new.arcs cone c.args.a c.args.b c.args.j c.requires.rules at
    c.in_ok-add_arc.ensures.parts c.in_ok-add_arc.ensures.cones
