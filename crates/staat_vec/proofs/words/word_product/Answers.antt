use Rattle.std.proofs.Common.{arith, unsigned_abs}
use Rattle.std.specs.Int.{w64}
use Rattle.std.proofs.lemmas.Int.{to_z-of_z, fits_signed_mul, unsigned_abs-mul}
use Rattle.staat_vec.proofs.words.word_product.Goals as goal

pub returns : goal.returns
returns c =
    let a = c.args.a in
    let b = c.args.b in
    let a_fits = c.ranges.a in
    let b_fits = c.ranges.b in
    let product_fits = fits_signed_mul w64 a b (unsigned_abs a) (unsigned_abs b) (omega arith) (omega arith) (omega arith) in
    record { value = simp to_z-of_z; size = simp to_z-of_z (omega (arith, unsigned_abs-mul a b)) }

pub overflow_mul-result : goal.overflow_mul-result
overflow_mul-result c =
    let a = c.args.a in
    let b = c.args.b in
    let a_fits = c.ranges.a in
    let b_fits = c.ranges.b in
    simp to_z-of_z (fits_signed_mul w64 a b (unsigned_abs a) (unsigned_abs b) (omega arith) (omega arith) (omega arith))
