use Rattle.std.proofs.Common.{◌≡◌, arith, pos, to_z}
use Rattle.std.specs.Int.{w128}
use Rattle.std.proofs.lemmas.Int.{ints, quot_fits, to_z-of_z, to_z_pos}
use Rattle.staat_vec.proofs.rays.quotient.Goals as goal

pub nonzero_div-result : goal.nonzero_div-result
nonzero_div-result c =
    let a_fits = c.ranges.a in
    let divisor : to_z w128 c.args.divisor ≡ pos c.args.divisor = to_z_pos w128 c.args.divisor (omega arith) in
    (omega arith, simp (to_z-of_z, divisor) (quot_fits w128 c.args.a (pos c.args.divisor) a_fits (omega (arith, ints))))

pub returns : goal.returns
returns c =
    let a_fits = c.ranges.a in
    let divisor : to_z w128 c.args.divisor ≡ pos c.args.divisor = to_z_pos w128 c.args.divisor (omega arith) in
    let quotient_fits = quot_fits w128 c.args.a (pos c.args.divisor) a_fits (omega (arith, ints)) in
    simp (to_z-of_z, divisor)
