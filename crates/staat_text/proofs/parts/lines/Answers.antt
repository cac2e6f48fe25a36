use Rattle.std.proofs.Common.{◌∙◌, ap, arith}
use Rattle.std.proofs.lemmas.List.{take_all}
use Rattle.staat_text.specs.Parts.{lines_from, parts_text}
use Rattle.staat_text.proofs.PartLines.{at_line}
use Rattle.staat_text.proofs.parts.lines.Goals as goal

pub loop-part-preserved : goal.loop-part-preserved
loop-part-preserved c =
    c.in_ok-extend_from_slice.ensures.items
    ∙ at_line c.args.a.now c.loop-part.part c.parts-part-end.result c.loop-part.text.items c.as_bytes.result.now c.loop-part-test.true c.parts-part-end.ensures.count c.loop-part.invariant (λ part is. c.as_bytes.ensures.value ∙ c.in_ok-line.ensures part is)

pub returns : goal.returns
unfolding parts_text
returns c =
    c.loop-part.invariant
    ∙ ap (lines_from 0) (take_all c.loop-part.part c.args.a.now (omega (arith, c.parts-part-end.ensures.count, c.loop-part-test.false)))
