use Rattle.std.proofs.Common.{◌∙◌, [], ap, false, get_or, map}
use Rattle.std.proofs.lemmas.List.{take_all}
use Rattle.staat_decide.proofs.Picked.{picked_more}
use Rattle.staat_decide.proofs.likely.picked_rows.Goals as goal

pub loop-a-preserved : goal.loop-a-preserved
loop-a-preserved c =
    picked_more c.args.rows.now c.args.w.now c.loop-a.picked.items c.push.new.self.items c.loop-a.a-index c.index-rows-a.result c.as_slice.result.now c.in_ok-picked_row.field-0
    c.loop-a-test.true (c.requires.members c.loop-a.a-index 0 c.loop-a-test.true) c.index-rows-a.is c.as_slice.ensures c.in_ok-picked_row.ensures c.loop-a.invariant c.in_ok-push.ensures.items

pub returns : goal.returns
returns c =
    c.loop-a.invariant
    ∙ ap (map (λ a. map (λ b. get_or (get_or c.args.rows.now a []) b false) c.args.w.now)) (take_all c.loop-a.a-index c.args.w.now c.loop-a-test.false)
