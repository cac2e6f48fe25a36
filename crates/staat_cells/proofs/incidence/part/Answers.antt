use Rattle.std.proofs.Common.{◌∙◌, ◌≤◌, ◌-◌, ap, arith, drop, length, subst, sym, take}
use Rattle.std.proofs.lemmas.List.{drop_all, length-take, take_all, take_rest}
use Rattle.staat_cells.proofs.Words.{length_taken}
use Rattle.staat_cells.proofs.incidence.part.Goals as goal

pub returns-then-signs-from-clause-is : goal.returns-then-signs-from-clause-is
returns-then-signs-from-clause-is c = sym (ap (take 64) (drop_all c.args.from c.args.signs.now c.if-signs-from.true))

pub slice_bounds-result-end-else-rest-le-WORD : goal.slice_bounds-result-end-else-rest-le-WORD
slice_bounds-result-end-else-rest-le-WORD c =
    let e = length-take 64 (take (length c.args.signs.now - c.args.from) (drop c.args.from c.args.signs.now)) in omega (arith, e)

pub returns-then-rest-le-WORD-clause-is : goal.returns-then-rest-le-WORD-clause-is
returns-then-rest-le-WORD-clause-is c =
    let rest = take_rest c.args.signs.now c.args.from in
    rest ∙ sym (take_all 64 (drop c.args.from c.args.signs.now) (subst (λ l. length l ≤ 64) rest c.if-rest-le-WORD.true))

pub returns-else-rest-le-WORD-clause-short : goal.returns-else-rest-le-WORD-clause-short
returns-else-rest-le-WORD-clause-short c =
    length_taken (take (length c.args.signs.now - c.args.from) (drop c.args.from c.args.signs.now))
