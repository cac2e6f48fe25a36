use Rattle.staat_motion.proofs.Kept.{body_at, parts_are, wholes_count}
use Rattle.std.proofs.Common.{arith}
use Rattle.staat_motion.proofs.along.Along.body.Goals as goal

pub part-requires : goal.part-requires
part-requires c = omega (arith, parts_are c.args.parts.now c.args.self.now c.requires.made)

pub whole-requires : goal.whole-requires
whole-requires c = omega (arith, wholes_count c.args.parts.now c.args.self.now c.requires.made)

pub returns-clause-kept : goal.returns-clause-kept
returns-clause-kept c = body_at c.args.parts.now c.args.self.now c.args.a c.pieces_of.result.now c.part.result.now c.whole.result.now c.requires.made c.pieces_of.ensures c.part.ensures c.whole.ensures
