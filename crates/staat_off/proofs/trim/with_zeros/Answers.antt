use Rattle.std.proofs.Common.{◌≡◌, ◌+◌, ◌*◌, ◌^◌, ap, sym, ◌∙◌, arith}
use Rattle.std.proofs.Math.Nat.{mul_assoc}
use Rattle.std.proofs.lemmas.Grind.{pow_more}
use Rattle.staat_off.proofs.trim.with_zeros.Goals as goal

pub loop-preserved : goal.loop-preserved
loop-preserved c =
    let m = c.args.mantissa in
    let i = c.loop.counter in
    let more : m * 10 ^ (i + 1) ≡ m * 10 ^ i * 10 = ap (λ p. m * p) (pow_more 10 i) ∙ sym (mul_assoc m (10 ^ i) 10) in
    omega arith
