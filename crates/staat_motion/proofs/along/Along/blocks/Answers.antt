use Rattle.std.proofs.Common.{arith}
use Rattle.staat_motion.proofs.Kept.{blocks_is, wholes_count}
use Rattle.staat_motion.proofs.along.Along.blocks.Goals as goal

pub parts_apart-requires-clause-a_in : goal.parts_apart-requires-clause-a_in
parts_apart-requires-clause-a_in g c = omega (arith, wholes_count c.args.parts.now c.args.self.now c.requires.made)

pub parts_apart-requires-clause-b_in : goal.parts_apart-requires-clause-b_in
parts_apart-requires-clause-b_in g c = omega (arith, wholes_count c.args.parts.now c.args.self.now c.requires.made)

pub returns : goal.returns
returns g c =
    let law = blocks_is c.args.parts.now c.args.self.now.d c.args.a c.args.b c.body-body.result.pieces.now c.body-others.result.pieces.now (λ e. c.if-a-b.false e) c.body-body.ensures.pieces c.body-others.ensures.pieces in
    let told = c.in_ok-answer.ensures in
    ((λ h. law.0 (told.0 h)), (λ b. told.1 (law.1 b)))
