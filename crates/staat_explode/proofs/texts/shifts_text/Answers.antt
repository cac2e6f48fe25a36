use Rattle.std.proofs.Common.{◌++◌, ◌∙◌, ap, sym, arith}
use Rattle.std.proofs.lemmas.List.{take_all}
use Rattle.staat_vec.specs.Vectors.{origin}
use Rattle.staat_explode.specs.ShiftTexts.{shift_lines_from, shifts_text}
use Rattle.staat_explode.proofs.Lines.{lines_more}
use Rattle.staat_explode.proofs.texts.shifts_text.Goals as goal

pub loop-part-preserved : goal.loop-part-preserved
loop-part-preserved c =
    c.in_ok-extend_from_slice.ensures.items
    ∙ (λ i. c.loop-part.invariant i ++ (c.as_bytes.ensures.value ∙ c.in_ok-line.ensures) i)
    ∙ sym (lines_more c.as_slice-shifts.result.now c.loop-part.part origin (omega arith))

pub returns : goal.returns
unfolding shifts_text
returns c = c.from_vec.ensures ∙ c.loop-part.invariant ∙ ap (shift_lines_from 0) (take_all c.loop-part.part c.as_slice-shifts.result.now (omega arith) ∙ c.as_slice-shifts.ensures)
