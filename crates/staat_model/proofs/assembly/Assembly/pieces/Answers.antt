use Rattle.std.proofs.Common.{arith}
use Rattle.staat_model.proofs.PartCounts.{piece_count_small}
use Rattle.staat_model.proofs.assembly.Assembly.pieces.Goals as goal

pub returns-clause-most : goal.returns-clause-most
returns-clause-most c =
    let few = piece_count_small c.self.inside.product c.args.a in
    omega (arith, c.pieces.ensures.count, few, c.self.invariant.pieces)
