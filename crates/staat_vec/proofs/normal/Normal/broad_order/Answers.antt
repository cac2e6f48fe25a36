use Rattle.std.proofs.Common.{◌∙◌, ◌≡◌, ◌≤◌, ◌*◌, ◌*ℤ◌, ◌-ℤ◌, ℤ, ap, arith, of_z, to_z, unsigned_abs}
use Rattle.std.specs.Int.{w64, w128}
use Rattle.staat_vec.specs.Vectors.{sign}
use Rattle.staat_vec.specs.declared.vector.TheConstants.{NORMAL}
use Rattle.staat_vec.specs.declared.words.TheConstants.{MINOR}
use Rattle.staat_vec.proofs.ReadBack.{minor_of, read_back, three_fits, three_read}
use Rattle.staat_vec.proofs.normal.Normal.broad_order.Goals as goal

-- the product of a component and a minor, both words
times_minor : (r n m a b c d : ℤ) → unsigned_abs n ≤ NORMAL → unsigned_abs a ≤ NORMAL → unsigned_abs b ≤ NORMAL → unsigned_abs c ≤ NORMAL → unsigned_abs d ≤ NORMAL
    → unsigned_abs m ≤ MINOR → m ≡ (to_z w64 (of_z w64 a) *ℤ to_z w64 (of_z w64 d)) -ℤ (to_z w64 (of_z w64 b) *ℤ to_z w64 (of_z w64 c))
    → r ≡ to_z w64 (of_z w64 n) *ℤ to_z w64 (of_z w64 m) → r ≡ n *ℤ ((a *ℤ d) -ℤ (b *ℤ c))
times_minor r n m a b c d hn ha hb hc hd hm e f =
    f ∙ rw (read_back w64 n NORMAL hn (omega arith), minor_of w64 m a b c d MINOR NORMAL ha hb hc hd (omega arith) hm (omega arith) e)

pub overflow_add-minor_product-2 : goal.overflow_add-minor_product-2
overflow_add-minor_product-2 c =
    three_fits w128 c.minor_product.result c.minor_product-2.result c.minor_product-3.result (NORMAL * MINOR)
    c.minor_product.ensures.size c.minor_product-2.ensures.size c.minor_product-3.ensures.size (omega arith)

pub returns : goal.returns
returns c =
    let g = c.self.inside in
    let a = c.a.inside in
    let b = c.b.inside in
    let h = c.self.invariant in
    let j = c.a.invariant in
    let k = c.b.invariant in
    let sum = three_read w128 c.minor_product.result c.minor_product-2.result c.minor_product-3.result (NORMAL * MINOR)
    c.minor_product.ensures.size c.minor_product-2.ensures.size c.minor_product-3.ensures.size (omega arith) in
    let x = times_minor c.minor_product.result g.x c.word_minor.result a.y a.z b.y b.z h.x j.y j.z k.y k.z c.word_minor.ensures.size c.word_minor.ensures.value c.minor_product.ensures.value in
    let y = times_minor c.minor_product-2.result g.y c.word_minor-2.result a.z a.x b.z b.x h.y j.z j.x k.z k.x c.word_minor-2.ensures.size c.word_minor-2.ensures.value c.minor_product-2.ensures.value in
    let z = times_minor c.minor_product-3.result g.z c.word_minor-3.result a.x a.y b.x b.y h.z j.x j.y k.x k.y c.word_minor-3.ensures.size c.word_minor-3.ensures.value c.minor_product-3.ensures.value in
    c.sign_of.ensures ∙ ap sign (sum ∙ rw (x, y, z, ← c.self.view_is, ← c.a.view_is, ← c.b.view_is))
