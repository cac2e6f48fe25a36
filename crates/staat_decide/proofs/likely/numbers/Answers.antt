use Rattle.std.proofs.Common.{◌∙◌, ap, sym, ◌∷◌, [], ◌++◌, List, ℕ, zero-add}
use Rattle.staat_decide.proofs.Picked.{range_more}
use Rattle.staat_decide.proofs.likely.numbers.Goals as goal

pub loop-p-preserved : goal.loop-p-preserved
loop-p-preserved c =
    c.in_ok-push.ensures.items ∙ ap (λ (xs : List ℕ). xs ++ c.loop-p.p ∷ []) c.loop-p.invariant
    ∙ sym (range_more 0 c.loop-p.p c.loop-p.p (zero-add c.loop-p.p))
