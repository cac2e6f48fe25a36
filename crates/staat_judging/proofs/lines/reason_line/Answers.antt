use Rattle.std.proofs.Common.{◌≡◌, ◌+◌, ◌++◌, subst}
use Rattle.std.specs.Prelude.{IfOk, codes, string_bytes}
use Rattle.staat_judging.specs.Confirming.{hold_rule_text}
use Rattle.staat_judging.proofs.lines.reason_line.Goals as goal

pub returns-in-WrongParts : goal.returns-in-WrongParts
returns-in-WrongParts c = rw c.in-WrongParts.is c.rule_at.ensures

pub returns-in-BadLeaves : goal.returns-in-BadLeaves
returns-in-BadLeaves c = rw c.in-BadLeaves.is c.rule_at-in-BadLeaves.ensures

pub returns-in-ZeroDirection : goal.returns-in-ZeroDirection
returns-in-ZeroDirection c = rw c.in-ZeroDirection.is c.rule_at-in-ZeroDirection.ensures

pub returns-in-HoldBreaks : goal.returns-in-HoldBreaks
returns-in-HoldBreaks c = rw c.in-HoldBreaks.is c.hold_line.ensures

pub returns-in-GroupBreaks : goal.returns-in-GroupBreaks
returns-in-GroupBreaks c =
    let broken = c.in-GroupBreaks.broken in
    rw c.in-GroupBreaks.is
    (subst (λ before. IfOk c.hold_line-in-GroupBreaks.result
    (λ s. string_bytes s ≡ codes "not valid: " ++ hold_rule_text (before + broken.hold) broken.rule))
    c.holds_before.ensures.count c.hold_line-in-GroupBreaks.ensures)

pub returns-in-Meet : goal.returns-in-Meet
returns-in-Meet c = rw c.in-Meet.is c.meeting.ensures
