use Rattle.std.proofs.Common.{◌∙◌, ◌++◌, ◌∷◌, [], ap, false, map, sym, take}
use Rattle.std.proofs.lemmas.List.{map_more, take_all}
use Rattle.staat_decide.specs.Reaching.{label_of}
use Rattle.staat_decide.proofs.reach.labels_by.Goals as goal

pub loop-is_marked-preserved : goal.loop-is_marked-preserved
loop-is_marked-preserved c =
    let change = label_of c.args.way in
    c.in_ok-push.ensures.items
    ∙ ap (λ l. l ++ c.label.result ∷ []) c.loop-is_marked.invariant
    ∙ ap (λ v. map change (take c.loop-is_marked.is_marked-index c.args.marks.now) ++ v ∷ []) c.label.ensures
    ∙ sym (map_more change c.args.marks.now c.loop-is_marked.is_marked-index false c.loop-is_marked-test.true)

pub returns : goal.returns
returns c =
    c.loop-is_marked.invariant
    ∙ ap (map (label_of c.args.way)) (take_all c.loop-is_marked.is_marked-index c.args.marks.now c.loop-is_marked-test.false)
