use Rattle.std.proofs.Common.{◌∙◌, arith}
use Rattle.std.proofs.lemmas.Int.{ints, to_z-of_z}
use Rattle.staat_cert.proofs.LineShapes.{Reads, arc_by_places}
use Rattle.staat_cert.proofs.line.arc_alone.Goals as goal

pub returns-in-len4 : goal.returns-in-len4
returns-in-len4 c =
    let zs = c.args.numbers.now in
    let a : Reads zs 0 = grind (arith, ints, to_z-of_z) in
    let i : Reads zs 1 = grind (arith, ints, to_z-of_z) in
    let b : Reads zs 2 = grind (arith, ints, to_z-of_z) in
    let j : Reads zs 3 = grind (arith, ints, to_z-of_z) in
    (rw (a, i, b, j) at c.arc_of.ensures) ∙ arc_by_places c.args.parts c.args.pieces zs (omega arith)
