use Rattle.std.proofs.Common.{◌+◌, sym, subst, arith}
use Rattle.std.specs.Int.{w128}
use Rattle.staat_vec.specs.Vectors.{IsWithin, plus}
use Rattle.staat_vec.specs.declared.vector.TheConstants.{DIRECTION, EDGE, VERTEX}
use Rattle.staat_vec.proofs.Bounds.{IsWithin-plus, IsWithin-wider}
use Rattle.staat_vec.proofs.ReadBack.{plus_fits, plus_read}
use Rattle.staat_vec.proofs.VecRing.{same_vector}
use Rattle.staat_vec.proofs.products.add.Goals as goal

pub overflow_add-result : goal.overflow_add-result
overflow_add-result c = plus_fits w128 c.args.a.x c.args.b.x EDGE EDGE c.requires.a.x c.requires.b.x (omega arith)

pub overflow_add-result-2 : goal.overflow_add-result-2
overflow_add-result-2 c = plus_fits w128 c.args.a.y c.args.b.y EDGE EDGE c.requires.a.y c.requires.b.y (omega arith)

pub overflow_add-result-3 : goal.overflow_add-result-3
overflow_add-result-3 c = plus_fits w128 c.args.a.z c.args.b.z EDGE EDGE c.requires.a.z c.requires.b.z (omega arith)

pub returns-clause-value : goal.returns-clause-value
returns-clause-value c =
    same_vector _ (plus c.args.a c.args.b)
    (plus_read w128 c.args.a.x c.args.b.x EDGE EDGE c.requires.a.x c.requires.b.x (omega arith))
    (plus_read w128 c.args.a.y c.args.b.y EDGE EDGE c.requires.a.y c.requires.b.y (omega arith))
    (plus_read w128 c.args.a.z c.args.b.z EDGE EDGE c.requires.a.z c.requires.b.z (omega arith))

pub returns-clause-size : goal.returns-clause-size
returns-clause-size c =
    subst (IsWithin DIRECTION) (sym (returns-clause-value c))
    (IsWithin-plus EDGE EDGE c.args.a c.args.b c.requires.a c.requires.b)

pub returns-clause-vertices : goal.returns-clause-vertices
returns-clause-vertices c a b =
    subst (IsWithin EDGE) (sym (returns-clause-value c))
    (IsWithin-wider (VERTEX + VERTEX) EDGE (plus c.args.a c.args.b) (omega arith)
    (IsWithin-plus VERTEX VERTEX c.args.a c.args.b a b))
