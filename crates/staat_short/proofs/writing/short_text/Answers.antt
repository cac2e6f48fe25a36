use Rattle.std.proofs.Common.{[]}
use Rattle.staat_short.specs.ShortTexts.{short_text}
use Rattle.staat_short.proofs.AddLemmas.{text_answer}
use Rattle.staat_short.proofs.writing.short_text.Goals as goal

pub returns : goal.returns
returns c = text_answer c.args.c.now c.requires _ (c.into_text.ensures (short_text c.args.c.now) (c.in_ok-add_certificate.ensures [] c.new-w.ensures))
