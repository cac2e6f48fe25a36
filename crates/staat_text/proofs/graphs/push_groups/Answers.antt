use Rattle.std.proofs.Common.{◌∙◌, ◌++◌, ap}
use Rattle.staat_model.specs.declared.set.PartSet.{PartSet}
use Rattle.staat_text.specs.GraphTexts.{group_line}
use Rattle.staat_text.proofs.GraphLines.{text_more}
use Rattle.staat_text.proofs.graphs.push_groups.Goals as goal

pub loop-group-preserved : goal.loop-group-preserved
loop-group-preserved c =
    let text = c.loop-group.text.items in
    text_more group_line c.args.groups.now c.loop-group.group-index c.group-item.result c.args.text.now.items text _
    c.loop-group-test.true c.loop-group.invariant
    (c.in_ok-push_parts.ensures ∙ ap (λ (g : PartSet). text ++ group_line g) c.group-item.is)
