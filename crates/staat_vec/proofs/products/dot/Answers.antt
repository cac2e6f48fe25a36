use Rattle.std.proofs.Common.{◌≤◌, ◌*◌, sym, subst, arith}
use Rattle.std.specs.Prelude.{unsigned_abs}
use Rattle.std.specs.Int.{w128}
use Rattle.staat_vec.specs.declared.vector.TheConstants.{DIRECTION, NORMAL}
use Rattle.staat_vec.proofs.Bounds.{abs_dot_le}
use Rattle.staat_vec.proofs.ReadBack.{plus_fits, product_of, three_fits, three_read}
use Rattle.staat_vec.proofs.products.dot.Goals as goal

pub overflow_add-result : goal.overflow_add-result
overflow_add-result c =
    plus_fits w128 c.product.result c.product-2.result (NORMAL * DIRECTION) (NORMAL * DIRECTION)
    c.product.ensures.size c.product-2.ensures.size (omega arith)

pub overflow_add-result-2 : goal.overflow_add-result-2
overflow_add-result-2 c =
    three_fits w128 c.product.result c.product-2.result c.product-3.result (NORMAL * DIRECTION)
    c.product.ensures.size c.product-2.ensures.size c.product-3.ensures.size (omega arith)

pub returns-clause-value : goal.returns-clause-value
returns-clause-value c =
    let n = c.args.n in
    let d = c.args.d in
    let h = c.requires.n in
    let k = c.requires.d in
    let x = product_of w128 c.product.result n.x d.x NORMAL DIRECTION h.x k.x (omega arith) (omega arith) c.product.ensures.value in
    let y = product_of w128 c.product-2.result n.y d.y NORMAL DIRECTION h.y k.y (omega arith) (omega arith) c.product-2.ensures.value in
    let z = product_of w128 c.product-3.result n.z d.z NORMAL DIRECTION h.z k.z (omega arith) (omega arith) c.product-3.ensures.value in
    rw (← x, ← y, ← z)
    (three_read w128 c.product.result c.product-2.result c.product-3.result (NORMAL * DIRECTION)
    c.product.ensures.size c.product-2.ensures.size c.product-3.ensures.size (omega arith))

pub returns-clause-size : goal.returns-clause-size
returns-clause-size c =
    subst (λ z. unsigned_abs z ≤ 3 * (NORMAL * DIRECTION)) (sym (returns-clause-value c))
    (abs_dot_le NORMAL DIRECTION c.args.n c.args.d c.requires.n c.requires.d)
