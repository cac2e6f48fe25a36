use Rattle.std.proofs.Common.{◌≡◌, ◌+◌, ◌*◌, ◌^◌, ◌≤◌, ◌∙◌, ap, arith, length, take, drop}
use Rattle.std.proofs.lemmas.List.{length-take-le, take_rest}
use Rattle.staat_cells.specs.Packing.{packed}
use Rattle.staat_cells.proofs.Words.{halves, halves_fit}
use Rattle.staat_cells.proofs.incidence.word.Goals as goal

pub slice_bounds-half-end : goal.slice_bounds-half-end
slice_bounds-half-end c = let low : 32 ≤ length c.args.signs.now = omega arith in let e = length-take-le 32 c.args.signs.now low in omega (arith, e)

pub half-requires-2 : goal.half-requires-2
half-requires-2 c = let low : 32 ≤ length c.args.signs.now = omega arith in let e = length-take-le 32 c.args.signs.now low in omega (arith, e)

pub overflow_mul-result : goal.overflow_mul-result
overflow_mul-result c =
    let s = c.args.signs.now in
    let power : c.power.result ≡ 4 ^ length (drop 32 s) = c.power.ensures ∙ ap (λ l. 4 ^ length l) (take_rest s 32) in
    let whole : c.half-2.result * c.power.result ≡ packed (take 32 s) * 4 ^ length (drop 32 s) = λ i. c.half-2.ensures i * power i in
    let fits = halves_fit s (omega arith) (omega arith) in
    omega (arith, whole, fits)

pub overflow_add-result : goal.overflow_add-result
overflow_add-result c =
    let s = c.args.signs.now in
    let power : c.power.result ≡ 4 ^ length (drop 32 s) = c.power.ensures ∙ ap (λ l. 4 ^ length l) (take_rest s 32) in
    let rest : c.half-3.result ≡ packed (drop 32 s) = c.half-3.ensures ∙ ap packed (take_rest s 32) in
    let whole : c.half-2.result * c.power.result ≡ packed (take 32 s) * 4 ^ length (drop 32 s) = λ i. c.half-2.ensures i * power i in
    let fits = halves_fit s (omega arith) (omega arith) in
    omega (arith, whole, rest, fits)

pub returns : goal.returns
returns c =
    let s = c.args.signs.now in
    let power : c.power.result ≡ 4 ^ length (drop 32 s) = c.power.ensures ∙ ap (λ l. 4 ^ length l) (take_rest s 32) in
    let rest : c.half-3.result ≡ packed (drop 32 s) = c.half-3.ensures ∙ ap packed (take_rest s 32) in
    (λ i. c.half-2.ensures i * power i + rest i) ∙ halves s
