use Rattle.std.proofs.Common.{sym, subst, arith}
use Rattle.std.specs.Int.{w128}
use Rattle.staat_vec.specs.Vectors.{IsWithin, negative}
use Rattle.staat_vec.specs.declared.vector.TheConstants.{DIRECTION}
use Rattle.staat_vec.proofs.Bounds.{IsWithin-negative}
use Rattle.staat_vec.proofs.ReadBack.{neg_fits, neg_read}
use Rattle.staat_vec.proofs.VecRing.{same_vector}
use Rattle.staat_vec.proofs.products.neg.Goals as goal

pub overflow_sub-result : goal.overflow_sub-result
overflow_sub-result c = neg_fits w128 c.args.a.x DIRECTION c.requires.x (omega arith)

pub overflow_sub-result-2 : goal.overflow_sub-result-2
overflow_sub-result-2 c = neg_fits w128 c.args.a.y DIRECTION c.requires.y (omega arith)

pub overflow_sub-result-3 : goal.overflow_sub-result-3
overflow_sub-result-3 c = neg_fits w128 c.args.a.z DIRECTION c.requires.z (omega arith)

pub returns-clause-value : goal.returns-clause-value
returns-clause-value c =
    same_vector _ (negative c.args.a) (neg_read w128 c.args.a.x DIRECTION c.requires.x (omega arith))
    (neg_read w128 c.args.a.y DIRECTION c.requires.y (omega arith)) (neg_read w128 c.args.a.z DIRECTION c.requires.z (omega arith))

pub returns-clause-size : goal.returns-clause-size
returns-clause-size c bound h =
    subst (IsWithin bound) (sym (returns-clause-value c)) (IsWithin-negative bound c.args.a h)
