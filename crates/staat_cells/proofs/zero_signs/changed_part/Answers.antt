use Rattle.std.proofs.Common.{◌-◌, arith, refl}
use Rattle.staat_cells.proofs.Words.{word_given}
use Rattle.staat_cells.proofs.zero_signs.changed_part.Goals as goal

pub returns-then-k-from-lt64 : goal.returns-then-k-from-lt64
returns-then-k-from-lt64 c = λ s is l z.
    word_given c.args.from (c.args.k - c.args.from) (c.args.count - c.args.from) c.word_count.result s c.args.count c.args.k l refl
    c.word_count.ensures.is z (omega arith) (omega arith) c.args.word c.changed_word.result c.args.t is c.changed_word.ensures
