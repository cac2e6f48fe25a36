use Rattle.std.proofs.Common.{◌∙◌, refl, subst, sym}
use Rattle.std.proofs.lemmas.Bool.{false≢true}
use Rattle.std.proofs.lemmas.Result.{MatchResult-at_err, MatchResult-at_ok}
use Rattle.staat_confirm.specs.Members.{AreMembersOnce, IsMemberFault}
use Rattle.staat_confirm.specs.ShortVerdicts.{bad_members, unclear_split}
use Rattle.staat_confirm.proofs.judging.plan_verdict.Goals as goal

pub returns-in-Err : goal.returns-in-Err
returns-in-Err g c = bad_members c.in-Err.node c.requires.keep (subst (λ ps. IsMemberFault ps c.args.nodes.now c.in-Err.node) c.as_slice.ensures.parts (MatchResult-at_err _ _ _ c.in-Err.is c.in_ok-node.ensures.once)) refl

pub returns-in-Some : goal.returns-in-Some
returns-in-Some g c =
    let once = subst (λ ps. AreMembersOnce ps c.args.nodes.now) c.as_slice.ensures.parts (MatchResult-at_ok _ _ _ c.in-Ok.is c.in_ok-node.ensures.once) in
    unclear_split c.requires.keep once (rw c.in-Some.is at c.in_ok-reason-in-Ok.ensures)

pub returns : goal.returns
returns g c =
    let once = subst (λ ps. AreMembersOnce ps c.args.nodes.now) c.as_slice.ensures.parts (MatchResult-at_ok _ _ _ c.in-Ok.is c.in_ok-node.ensures.once) in
    let splits = rw c.in-None.is at c.in_ok-reason-in-Ok.ensures in (
      record { holds = c.requires.keep; members = once; splits = splits },
      λ all. false≢true (sym c.if-are_ungrouped.false ∙ c.are_ungrouped.ensures.1 all),
    )
