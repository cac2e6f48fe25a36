use Rattle.std.proofs.Common.{◌*◌, ◌≤◌, sym, subst, arith}
use Rattle.std.specs.Prelude.{unsigned_abs}
use Rattle.std.specs.Int.{w128}
use Rattle.staat_vec.specs.declared.vector.TheConstants.{DIRECTION, NORMAL, VERTEX}
use Rattle.staat_vec.proofs.Bounds.{abs_minor_le}
use Rattle.staat_vec.proofs.ReadBack.{minus_fits, minus_read, product_of}
use Rattle.staat_vec.proofs.products.minor.Goals as goal

pub overflow_sub-result : goal.overflow_sub-result
overflow_sub-result c =
    minus_fits w128 c.product.result c.product-2.result (NORMAL * DIRECTION) (NORMAL * DIRECTION)
    c.product.ensures.size c.product-2.ensures.size (omega arith)

pub returns-clause-value : goal.returns-clause-value
returns-clause-value c =
    let h = c.requires in
    let first = product_of w128 c.product.result c.args.a c.args.d NORMAL NORMAL h.a h.d (omega arith) (omega arith) c.product.ensures.value in
    let second = product_of w128 c.product-2.result c.args.b c.args.c NORMAL NORMAL h.b h.c (omega arith) (omega arith) c.product-2.ensures.value in
    rw (← first, ← second)
    (minus_read w128 c.product.result c.product-2.result (NORMAL * DIRECTION) (NORMAL * DIRECTION)
    c.product.ensures.size c.product-2.ensures.size (omega arith))

pub returns-clause-size : goal.returns-clause-size
returns-clause-size c =
    let h = c.requires in
    subst (λ z. unsigned_abs z ≤ VERTEX) (sym (returns-clause-value c))
    (abs_minor_le c.args.a c.args.b c.args.c c.args.d NORMAL NORMAL h.a h.b h.c h.d)
