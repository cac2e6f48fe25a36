use Rattle.std.proofs.Common.{◌∙◌, sym, arith}
use Rattle.std.proofs.lemmas.Result.{err_from_is_err_and}
use Rattle.staat_off.specs.Reading.{index}
use Rattle.staat_off.proofs.Many.{many_ends, many_fails, many_goes, refuses_by}
use Rattle.staat_off.proofs.file.read_indices.Goals as goal

pub returns-in_err-corner : goal.returns-in_err-corner
returns-in_err-corner c =
    let p = err_from_is_err_and c.from_residual.result c.from_residual.ensures.1 in
    rw (p.1, p.2)
    (many_fails (index c.args.vertices) c.args.number c.corners.counter c.corners.corners.items c.corners.rest _ c.in_err-corner.field-0.0 (omega arith) c.corners.invariant (refuses_by _ _ c.in_err-corner.ensures))

pub corners-preserved : goal.corners-preserved
corners-preserved c =
    many_goes (index c.args.vertices) c.args.number c.corners.counter c.corners.corners.items c.push.new.self.items c.in_ok-corner.corner c.corners.rest c.read_index.new.rest _ (omega arith) c.corners.invariant c.in_ok-corner.ensures c.in_ok-push.ensures.items

pub returns : goal.returns
returns c =
    rw (c.from_vec.ensures ∙ c.shrink_to_fit.ensures.items)
    (sym c.corners.invariant ∙ many_ends (index c.args.vertices) c.args.number c.corners.counter c.corners.corners.items c.corners.rest (omega arith))
