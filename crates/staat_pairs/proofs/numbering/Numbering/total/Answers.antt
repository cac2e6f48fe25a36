use Rattle.std.proofs.Common.{◌≡◌, ◌+◌, ◌≤◌, arith, rules, get_or, subst, sym}
use Rattle.std.specs.Prelude.{sum}
use Rattle.staat_pairs.proofs.NumberingLemmas.{total_is}
use Rattle.staat_pairs.proofs.numbering.Numbering.total.Goals as goal

pub overflow_add-result : goal.overflow_add-result
overflow_add-result c =
    let total : get_or c.args.self.now.firsts 31 0 + get_or c.args.self.now.counts 31 0 ≡ sum c.args.self.now.counts = total_is c.args.self.now.counts c.args.self.now.firsts (search rules) c.args.self.now.starts in
    let most : sum c.args.self.now.counts ≤ 64 = c.args.self.now.most in
    omega (arith, total, most)

pub returns-clause-is : goal.returns-clause-is
returns-clause-is c = total_is c.args.self.now.counts c.args.self.now.firsts (search rules) c.args.self.now.starts

pub returns-clause-most : goal.returns-clause-most
returns-clause-most c = subst (λ n. n ≤ 64) (sym (returns-clause-is c)) c.args.self.now.most
