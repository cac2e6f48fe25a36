use Rattle.std.proofs.Common.{◌∙◌, sym, arith}
use Rattle.std.proofs.lemmas.Result.{err_from_is_err_and}
use Rattle.staat_off.specs.Reading.{face}
use Rattle.staat_off.proofs.Many.{many_ends, many_fails, many_goes}
use Rattle.staat_off.proofs.file.read_faces.Goals as goal

pub returns-in_err-face : goal.returns-in_err-face
returns-in_err-face c =
    let p = err_from_is_err_and c.from_residual.result c.from_residual.ensures.1 in
    rw (p.1, p.2)
    (many_fails (face c.args.vertices) c.args.number c.faces.counter c.faces.faces.items c.faces.rest _ c.in_err-face.field-0.0 (omega arith) c.faces.invariant c.in_err-face.ensures)

pub faces-preserved : goal.faces-preserved
faces-preserved c =
    many_goes (face c.args.vertices) c.args.number c.faces.counter c.faces.faces.items c.push.new.self.items c.in_ok-face.face c.faces.rest c.read_face.new.rest _ (omega arith) c.faces.invariant c.in_ok-face.ensures c.in_ok-push.ensures.items

pub returns : goal.returns
returns c =
    rw (c.from_vec.ensures ∙ c.shrink_to_fit.ensures.items)
    (sym c.faces.invariant ∙ many_ends (face c.args.vertices) c.args.number c.faces.counter c.faces.faces.items c.faces.rest (omega arith))
