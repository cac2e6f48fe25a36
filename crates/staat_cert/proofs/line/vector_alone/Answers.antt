use Rattle.std.proofs.Common.{◌∙◌, arith}
use Rattle.std.proofs.lemmas.Int.{ints, to_z-of_z}
use Rattle.staat_cert.proofs.LineShapes.{Reads, vector_by_places}
use Rattle.staat_cert.proofs.line.vector_alone.Goals as goal

pub returns-in-len3 : goal.returns-in-len3
returns-in-len3 c =
    let zs = c.args.numbers.now in
    let x : Reads zs 0 = grind (arith, ints, to_z-of_z) in
    let y : Reads zs 1 = grind (arith, ints, to_z-of_z) in
    let z : Reads zs 2 = grind (arith, ints, to_z-of_z) in
    (rw (x, y, z) at c.vector_of.ensures) ∙ vector_by_places c.args.most zs (omega arith)
