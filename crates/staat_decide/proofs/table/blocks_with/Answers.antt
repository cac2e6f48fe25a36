use Rattle.std.proofs.Common.{arith}
use Rattle.staat_motion.proofs.Kept.{wholes_count}
use Rattle.staat_decide.proofs.table.blocks_with.Goals as goal

pub parts_apart-requires-clause-a_in : goal.parts_apart-requires-clause-a_in
parts_apart-requires-clause-a_in g c =
    let count = wholes_count c.args.view.now.parts.now c.args.view.now.along.now c.requires.made in omega (arith, count, c.requires.a_in)

pub parts_apart-requires-clause-b_in : goal.parts_apart-requires-clause-b_in
parts_apart-requires-clause-b_in g c =
    let count = wholes_count c.args.view.now.parts.now c.args.view.now.along.now c.requires.made in omega (arith, count, c.requires.b_in)
