use Rattle.std.proofs.lemmas.Result.{IfOk-weaker}
use Rattle.staat_cert.proofs.AddLemmas.{all_added}
use Rattle.staat_short.specs.declared.line.ShortLine.TheVariants as line
use Rattle.staat_short.specs.ShortLines.{short_line_text}
use Rattle.staat_short.specs.ShortTexts.{lines_of_answer}
use Rattle.staat_short.proofs.writing.add_certificate.Goals as goal

pub returns : goal.returns
returns c =
    IfOk-weaker c.add_line-3.result _ _ (λ x ends.
    all_added short_line_text c.args.w.now c.add_line.new.w c.add_line-2.new.w c.add_answer.new.w c.add_line-3.new.w line.Title (line.Parts c.args.c.now.parts) line.End
    (lines_of_answer c.args.c.now.answer) c.in_ok-add_line.ensures c.in_ok-add_line-2.ensures c.in_ok-add_answer.ensures ends)
    c.add_line-3.ensures
