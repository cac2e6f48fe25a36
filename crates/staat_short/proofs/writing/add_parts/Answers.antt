use Rattle.std.proofs.lemmas.List.{take_all}
use Rattle.staat_cert.proofs.AddLemmas.{each_added}
use Rattle.staat_short.specs.declared.line.ShortLine.TheVariants as line
use Rattle.staat_short.specs.ShortLines.{short_line_text}
use Rattle.staat_short.proofs.writing.add_parts.Goals as goal

pub returns : goal.returns
returns c =
    each_added short_line_text line.Part c.args.w.now c.parts.w c.args.parts.now (rw (take_all c.parts.p-index c.args.parts.now c.parts-test.false) at c.parts.invariant)
