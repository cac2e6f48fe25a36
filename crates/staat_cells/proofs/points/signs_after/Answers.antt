use Rattle.std.proofs.Common.{◌≡◌, ◌∙◌, ◌-◌, ap, arith, get_or, length, map, refl, sym}
use Rattle.std.proofs.lemmas.Result.{IfOk-weaker}
use Rattle.staat_vec.specs.Vectors.{origin}
use Rattle.staat_model.specs.Cells.{signs_of}
use Rattle.staat_cells.specs.declared.cell.Cell.{Cell}
use Rattle.staat_cells.specs.Stages.{flipped}
use Rattle.staat_cells.proofs.OppositeCells.{opposite_is}
use Rattle.staat_cells.proofs.points.signs_after.Goals as goal

pub returns-then-is_same : goal.returns-then-is_same
returns-then-is_same c =
    let planes = c.args.planes.now in
    let vertices = c.args.vertices.now in
    let v = get_or c.args.vertices.now c.args.k origin in
    let same : c.neg.result ≡ get_or c.args.vertices.now c.args.k origin = c.if-is_same.ensures.0 refl in
    IfOk-weaker c.flipped_signs.result (λ found. found.items ≡ map flipped c.as_slice.result.now)
    (λ found. found.items ≡ signs_of planes v)
    (λ found made. made ∙ ap (map flipped) c.as_slice.ensures
    ∙ ap (λ (a : Cell). map flipped a.signs) (sym c.index-cells-mirror.is)
    ∙ opposite_is planes vertices c.args.cells.now c.args.k (length vertices - 1 - c.args.k) c.index-cells-mirror.result
    c.neg.result v (omega arith) c.requires.long c.if-mirror-k.true c.requires.before c.index-cells-mirror.is
    c.neg.ensures.value same)
    c.flipped_signs.ensures
