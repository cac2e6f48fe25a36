use Rattle.std.proofs.Common.{sym, subst, arith}
use Rattle.std.specs.Int.{w128}
use Rattle.staat_vec.specs.Vectors.{IsWithin, minus}
use Rattle.staat_vec.specs.declared.vector.TheConstants.{DIFF, POINT}
use Rattle.staat_vec.proofs.Bounds.{IsWithin-minus}
use Rattle.staat_vec.proofs.ReadBack.{minus_fits, minus_read}
use Rattle.staat_vec.proofs.VecRing.{same_vector}
use Rattle.staat_vec.proofs.products.sub.Goals as goal

pub overflow_sub-result : goal.overflow_sub-result
overflow_sub-result c =
    minus_fits w128 c.args.a.x c.args.b.x POINT POINT c.requires.a.x c.requires.b.x (omega arith)

pub overflow_sub-result-2 : goal.overflow_sub-result-2
overflow_sub-result-2 c =
    minus_fits w128 c.args.a.y c.args.b.y POINT POINT c.requires.a.y c.requires.b.y (omega arith)

pub overflow_sub-result-3 : goal.overflow_sub-result-3
overflow_sub-result-3 c =
    minus_fits w128 c.args.a.z c.args.b.z POINT POINT c.requires.a.z c.requires.b.z (omega arith)

pub returns-clause-value : goal.returns-clause-value
returns-clause-value c =
    same_vector _ (minus c.args.a c.args.b)
    (minus_read w128 c.args.a.x c.args.b.x POINT POINT c.requires.a.x c.requires.b.x (omega arith))
    (minus_read w128 c.args.a.y c.args.b.y POINT POINT c.requires.a.y c.requires.b.y (omega arith))
    (minus_read w128 c.args.a.z c.args.b.z POINT POINT c.requires.a.z c.requires.b.z (omega arith))

pub returns-clause-size : goal.returns-clause-size
returns-clause-size c =
    subst (IsWithin DIFF) (sym (returns-clause-value c))
    (IsWithin-minus POINT POINT c.args.a c.args.b c.requires.a c.requires.b)
