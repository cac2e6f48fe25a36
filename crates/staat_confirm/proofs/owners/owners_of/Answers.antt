use Rattle.std.proofs.Common.{refl, subst, length}
use Rattle.std.proofs.lemmas.Result.{MatchResult-at_ok}
use Rattle.staat_confirm.specs.Owners.{AreAllOwned, IsUnowned}
use Rattle.staat_confirm.proofs.Owning.{members_missing, members_once}
use Rattle.staat_confirm.proofs.owners.owners_of.Goals as goal

pub returns-in-Some-clause-once : goal.returns-in-Some-clause-once
returns-in-Some-clause-once c =
    let are = MatchResult-at_ok _ _ _ c.in-Ok.is c.in_ok-node.ensures in
    members_missing c.args.parts.now c.args.nodes.now c.in-Ok.owners.items c.in-Some.field-0 (length c.args.nodes.now) refl are (subst (λ o. IsUnowned o c.in-Some.field-0) c.as_slice.ensures.value c.in-Some.ensures)

pub returns-in-None-clause-once : goal.returns-in-None-clause-once
returns-in-None-clause-once c =
    let are = MatchResult-at_ok _ _ _ c.in-Ok.is c.in_ok-node.ensures in
    members_once c.args.parts.now c.args.nodes.now c.in-Ok.owners.items are (subst AreAllOwned c.as_slice.ensures.value c.in-None.ensures)
