use Rattle.std.proofs.Common.{◌∷◌, ◌++◌, [], ◌∙◌, ap, sym, subst, arith, All}
use Rattle.std.proofs.lemmas.List.Elements.{All-append, All-cons, All-nil}
use Rattle.staat_explode.specs.Sizes.{AreBounds}
use Rattle.staat_explode.proofs.Folds.{boxes_more}
use Rattle.staat_explode.proofs.boxes.boxes_of.Goals as goal

pub loop-a-preserved : goal.loop-a-preserved
loop-a-preserved c =
    let items = c.in_ok-push.ensures.items in
    let value = items ∙ ap (λ b. c.loop-a.boxes.items ++ b ∷ []) c.box_of.ensures.value in
    record {
      so_far = value ∙ boxes_more c.args.assembly.now c.loop-a.a c.loop-a.boxes.items (omega (arith, c.parts-a-end.ensures.count)) c.loop-a.invariant.so_far;
      size = subst (All AreBounds) (sym items) (All-append AreBounds c.loop-a.boxes.items (c.box_of.result ∷ []) c.loop-a.invariant.size (All-cons AreBounds c.box_of.result [] c.box_of.ensures.size (All-nil AreBounds)));
    }
