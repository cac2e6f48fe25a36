use Rattle.std.proofs.Common.{◌≤◌, ◌*◌, arith, subst, sym}
use Rattle.std.specs.Prelude.{unsigned_abs}
use Rattle.std.specs.Int.{w64}
use Rattle.staat_vec.specs.declared.vector.TheConstants.{NORMAL}
use Rattle.staat_vec.specs.declared.words.TheConstants.{BROAD, MINOR, SMALL}
use Rattle.staat_vec.proofs.Bounds.{abs_minor_le}
use Rattle.staat_vec.proofs.ReadBack.{minus_fits, minus_read, product_of}
use Rattle.staat_vec.proofs.words.word_minor.Goals as goal

pub overflow_sub-result : goal.overflow_sub-result
overflow_sub-result c =
    minus_fits w64 c.word_product.result c.word_product-2.result (NORMAL * SMALL) (NORMAL * SMALL)
    c.word_product.ensures.size c.word_product-2.ensures.size (omega arith)

pub returns-clause-value : goal.returns-clause-value
returns-clause-value c =
    let h = c.requires in
    let first = product_of w64 c.word_product.result c.args.a c.args.d BROAD BROAD h.a h.d (omega arith) (omega arith) c.word_product.ensures.value in
    let second = product_of w64 c.word_product-2.result c.args.b c.args.c BROAD BROAD h.b h.c (omega arith) (omega arith) c.word_product-2.ensures.value in
    rw (← first, ← second)
    (minus_read w64 c.word_product.result c.word_product-2.result (NORMAL * SMALL) (NORMAL * SMALL)
    c.word_product.ensures.size c.word_product-2.ensures.size (omega arith))

pub returns-clause-size : goal.returns-clause-size
returns-clause-size c =
    let h = c.requires in
    subst (λ z. unsigned_abs z ≤ MINOR) (sym (returns-clause-value c))
    (abs_minor_le c.args.a c.args.b c.args.c c.args.d BROAD BROAD h.a h.b h.c h.d)
