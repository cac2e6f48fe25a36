use Rattle.std.proofs.Common.{◌∙◌, ◌*◌, arith, sym}
use Rattle.std.specs.Int.{w64, w128}
use Rattle.staat_vec.specs.declared.vector.TheConstants.{NORMAL}
use Rattle.staat_vec.specs.declared.words.TheConstants.{SMALL}
use Rattle.staat_vec.proofs.ReadBack.{of_words, plus_fits, read_back, three_fits, three_read}
use Rattle.staat_vec.proofs.VecRing.{dot_comm}
use Rattle.staat_vec.proofs.normal.Normal.small_dot.Goals as goal

pub overflow_add-result : goal.overflow_add-result
overflow_add-result c =
    plus_fits w64 c.word_product.result c.word_product-2.result (NORMAL * SMALL) (NORMAL * SMALL)
    c.word_product.ensures.size c.word_product-2.ensures.size (omega arith)

pub overflow_add-result-2 : goal.overflow_add-result-2
overflow_add-result-2 c =
    three_fits w64 c.word_product.result c.word_product-2.result c.word_product-3.result (NORMAL * SMALL)
    c.word_product.ensures.size c.word_product-2.ensures.size c.word_product-3.ensures.size (omega arith)

pub returns-clause-value : goal.returns-clause-value
returns-clause-value c =
    let n = c.self.inside in
    let d = c.args.d in
    let h = c.self.invariant in
    let k = c.requires in
    let x = of_words c.word_product.result n.x d.x n.x c.word.result NORMAL SMALL h.x k.x (omega arith) (omega arith) (sym (read_back w128 n.x NORMAL h.x (omega arith))) c.word.ensures c.word_product.ensures.value in
    let y = of_words c.word_product-2.result n.y d.y n.y c.word-2.result NORMAL SMALL h.y k.y (omega arith) (omega arith) (sym (read_back w128 n.y NORMAL h.y (omega arith))) c.word-2.ensures c.word_product-2.ensures.value in
    let z = of_words c.word_product-3.result n.z d.z n.z c.word-3.result NORMAL SMALL h.z k.z (omega arith) (omega arith) (sym (read_back w128 n.z NORMAL h.z (omega arith))) c.word-3.ensures c.word_product-3.ensures.value in
    rw (← c.self.view_is, ← x, ← y, ← z)
    (three_read w64 c.word_product.result c.word_product-2.result c.word_product-3.result (NORMAL * SMALL)
    c.word_product.ensures.size c.word_product-2.ensures.size c.word_product-3.ensures.size (omega arith))

pub returns-clause-turned : goal.returns-clause-turned
returns-clause-turned c = returns-clause-value c ∙ dot_comm c.args.self.now c.args.d
