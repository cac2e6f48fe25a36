use Rattle.std.proofs.Common.{sym}
use Rattle.std.specs.Str.Parse.{digits_value}
use Rattle.staat_off.proofs.DigitLemmas.{after-append}
use Rattle.staat_off.proofs.Pushes.{nothing}
use Rattle.staat_off.proofs.trim.trimmed_of.Goals as goal

pub returns-clause-trims : goal.returns-clause-trims
returns-clause-trims c =
    let n = c.args.numeral in
    rw (sym (after-append 0 n.whole.now n.fraction.now))
    (c.pushed_all-2.ensures.trims (digits_value 10 n.whole.now) (c.pushed_all.ensures.trims 0 nothing))
