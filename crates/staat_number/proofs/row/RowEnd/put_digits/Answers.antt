use Rattle.std.proofs.Common.{rules, ◌≤◌, ap, arith, drop, length, length-append, length-drop}
use Rattle.std.specs.Fmt.{decimal}
use Rattle.std.proofs.lemmas.Fmt.{length-decimal-le}
use Rattle.staat_number.proofs.row.RowEnd.put_digits.Goals as goal

pub write_digits-self-inside-requires : goal.write_digits-self-inside-requires
write_digits-self-inside-requires c =
    let few : length (decimal c.args.n) ≤ 20 = search (rules, length-decimal-le 20) in
    let left = ap length c.self.view_is in
    let size = length-drop c.self.inside.start c.self.inside.bytes in
    (omega (arith, few, left, size, c.requires, c.self.invariant, c.self.told), omega (arith, c.self.invariant, c.self.told))

pub returns-clause-size : goal.returns-clause-size
returns-clause-size c =
    let few : length (decimal c.args.n) ≤ 20 = search (rules, length-decimal-le 20) in
    let is = ap length c.write_digits-self-inside.ensures.written in
    let sum = length-append (decimal c.args.n) (drop c.self.inside.start c.self.inside.bytes) in
    let old = ap length c.self.view_is in
    omega (arith, few, is, sum, old)
