use Rattle.std.proofs.Common.{◌≡◌, arith, length}
use Rattle.std.proofs.lemmas.Result.{on_ok_weaker}
use Rattle.staat_cells.proofs.BatchCones.{cone_batch}
use Rattle.staat_cells.proofs.batches.add_new.Goals as goal

pub returns : goal.returns
returns c =
    let last : c.len-j.result ≡ length c.args.batch.now.cones.items = omega arith in
    on_ok_weaker c.push_copy.result (λ pushed.
    cone_batch c.args.batch.now _ c.args.cone.now c.args.a c.args.b c.len-j.result c.requires.rules last
    c.requires.room pushed c.in_ok-add_half_spaces.ensures c.in_ok-add_arc.ensures.parts
    c.in_ok-add_arc.ensures.cones)
    c.push_copy.ensures
