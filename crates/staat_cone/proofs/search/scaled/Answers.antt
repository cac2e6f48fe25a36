use Rattle.std.proofs.Common.{arith}
use Rattle.std.specs.Int.{w128}
use Rattle.std.proofs.lemmas.Int.{to_z-of_z, fits_signed_mul}
use Rattle.staat_vec.specs.declared.vector.TheConstants.{DIFF, NORMAL}
use Rattle.staat_cone.proofs.search.scaled.Goals as goal

pub returns : goal.returns
returns c =
    let a_fits = c.ranges.a in
    let b_fits = c.ranges.factor in
    let product_fits = fits_signed_mul w128 c.args.a c.args.factor NORMAL DIFF c.requires.a c.requires.factor (omega arith) in
    simp to_z-of_z
