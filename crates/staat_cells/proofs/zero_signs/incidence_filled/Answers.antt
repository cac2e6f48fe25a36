use Rattle.std.proofs.Common.{ap}
use Rattle.staat_cells.proofs.Words.{filled_word_at}
use Rattle.staat_cells.proofs.zero_signs.incidence_filled.Goals as goal

pub returns : goal.returns
returns c = λ s is i. record {
  a = filled_word_at 0 c.args.t s c.args.base.a c.filled_word.result (ap (λ y. y.a) is) c.filled_word.ensures i;
  b = filled_word_at 64 c.args.t s c.args.base.b c.filled_word-2.result (ap (λ y. y.b) is) c.filled_word-2.ensures i;
  c = filled_word_at 128 c.args.t s c.args.base.c c.filled_word-3.result (ap (λ y. y.c) is) c.filled_word-3.ensures i;
  d = filled_word_at 192 c.args.t s c.args.base.d c.filled_word-4.result (ap (λ y. y.d) is) c.filled_word-4.ensures i;
  of = c.args.base.of;
}
