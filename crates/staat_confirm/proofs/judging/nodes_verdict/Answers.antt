use Rattle.std.proofs.Common.{refl, subst}
use Rattle.staat_confirm.specs.Splits.{IsBrokenGroup}
use Rattle.staat_confirm.specs.ShortVerdicts.{group_breaks}
use Rattle.staat_confirm.proofs.Clearing.{group_told}
use Rattle.staat_confirm.proofs.judging.nodes_verdict.Goals as goal

pub returns-in-Some : goal.returns-in-Some
returns-in-Some g c = group_breaks c.in-Some.group.node c.in-Some.group.broken
    (subst (λ ps. IsBrokenGroup ps c.args.nodes.now c.in-Some.group.node c.in-Some.group.broken) c.as_slice.ensures.parts (group_told c.as_slice.result.now c.args.nodes.now c.in_ok-group.field-0 c.in-Some.group c.in-Some.is c.in_ok-group.ensures)) refl
