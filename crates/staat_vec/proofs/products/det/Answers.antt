use Rattle.std.proofs.Common.{arith}
use Rattle.std.proofs.lemmas.Int.{ints}
use Rattle.staat_vec.specs.declared.vector.TheConstants.{NORMAL, VERTEX}
use Rattle.staat_vec.proofs.Bounds.{abs_dot_le}
use Rattle.staat_vec.proofs.products.det.Goals as goal

pub returns-clause-size : goal.returns-clause-size
returns-clause-size c =
    omega (arith, ints, abs_dot_le NORMAL VERTEX c.args.a c.cross_normal.result c.requires.a c.cross_normal.ensures.size, c.dot.ensures.value)
