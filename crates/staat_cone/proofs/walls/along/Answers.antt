use Rattle.std.proofs.Common.{◌∙◌, ◌<◌, ◌^◌, sym, subst, arith}
use Rattle.std.specs.Prelude.{unsigned_abs}
use Rattle.staat_vec.specs.declared.vector.TheConstants.{DIFF, NORMAL}
use Rattle.staat_vec.specs.Vectors.{dot}
use Rattle.staat_vec.specs.declared.words.TheConstants.{SMALL}
use Rattle.staat_vec.proofs.Bounds.{IsWithin-wider, abs_dot_le}
use Rattle.staat_cone.proofs.walls.along.Goals as goal
use Rattle.staat_vec.proofs.Integers.{reads_word}

pub small_dot-requires-clause-d : goal.small_dot-requires-clause-d
small_dot-requires-clause-d c = IsWithin-wider DIFF SMALL c.args.v (omega arith) c.requires.vector

pub returns : goal.returns
returns c =
    let n = c.args.n in
    let v = c.args.v in
    let size = abs_dot_le NORMAL DIFF n v c.requires.normal c.requires.vector in
    let small : unsigned_abs (dot n v) < 2 ^ 63 = omega (arith, size) in
    reads_word c.small_dot.result (subst (λ z. unsigned_abs z < 2 ^ 63) (sym c.small_dot.ensures.value) small) ∙ c.small_dot.ensures.turned
