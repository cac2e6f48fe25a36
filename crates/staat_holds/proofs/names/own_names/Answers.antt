use Rattle.std.proofs.Common.{◌∙◌, ap, [], ◌∷◌, ◌++◌}
use Rattle.staat_holds.proofs.NodeNames.{own_more}
use Rattle.staat_holds.proofs.names.own_names.Goals as goal

pub loop-p-preserved : goal.loop-p-preserved
loop-p-preserved c = c.in_ok-push.ensures.items ∙ ap (λ l. l ++ c.loop-p.p ∷ []) c.loop-p.invariant ∙ own_more c.loop-p.p
