use Rattle.staat_text.specs.PlanTexts.{number_text}
use Rattle.staat_text.proofs.GraphLines.{text_more}
use Rattle.staat_text.proofs.numbers.push_numbers.Goals as goal

pub loop-p-preserved : goal.loop-p-preserved
loop-p-preserved c =
    text_more number_text c.args.numbers.now c.loop-p.p-index _ c.args.text.now.items c.loop-p.text.items _
    c.loop-p-test.true c.loop-p.invariant c.in_ok-push_part.ensures
