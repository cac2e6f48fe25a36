use Rattle.std.proofs.Common.{◌∙◌, ◌++◌, ◌∷◌, [], ap, sym, arith}
use Rattle.std.proofs.lemmas.Result.{err_from_is_err_and}
use Rattle.staat_off.specs.Reading.{point}
use Rattle.staat_off.proofs.Bounds.{point_bound}
use Rattle.staat_off.proofs.Many.{many_ends, many_fails, many_goes, refuses_by}
use Rattle.staat_off.proofs.file.read_points.Goals as goal

pub returns-in_err-point : goal.returns-in_err-point
returns-in_err-point c =
    let p = err_from_is_err_and c.from_residual.result c.from_residual.ensures.1 in
    rw (p.1, p.2)
    (many_fails (point c.args.digits) c.args.number c.points.counter c.points.points.items c.points.rest _ c.in_err-point.field-0.0 (omega arith) c.points.invariant (refuses_by _ _ c.in_err-point.ensures))

pub points-preserved : goal.points-preserved
points-preserved c =
    many_goes (point c.args.digits) c.args.number c.points.counter c.points.points.items c.push.new.self.items c.in_ok-point.point c.points.rest c.read_point.new.rest _ (omega arith) c.points.invariant c.in_ok-point.ensures (c.in_ok-push.ensures.items ∙ ap (λ p. c.points.points.items ++ p ∷ []) c.of.ensures)

pub returns : goal.returns
returns c =
    rw (c.from_vec.ensures ∙ c.shrink_to_fit.ensures.items)
    (sym c.points.invariant ∙ many_ends (point c.args.digits) c.args.number c.points.counter c.points.points.items c.points.rest (omega arith))

pub of-requires : goal.of-requires
of-requires c = point_bound c.args.digits c.points.rest (c.in_ok-point.point, c.read_point.new.rest) c.in_ok-point.ensures
