use Rattle.std.proofs.Common.{rules}
use Rattle.staat_text.specs.Verdicts.{reason_text}
use Rattle.staat_text.proofs.verdicts.reason_line.Goals as goal

pub returns-in-WrongParts : goal.returns-in-WrongParts
unfolding reason_text
returns-in-WrongParts c = rw c.in-WrongParts.is c.rule_at.ensures

pub returns-in-BadLeaves : goal.returns-in-BadLeaves
unfolding reason_text
returns-in-BadLeaves c = rw c.in-BadLeaves.is c.rule_at-in-BadLeaves.ensures

pub returns-in-ZeroDirection : goal.returns-in-ZeroDirection
unfolding reason_text
returns-in-ZeroDirection c = rw c.in-ZeroDirection.is c.rule_at-in-ZeroDirection.ensures

pub returns-in-BadSeparator : goal.returns-in-BadSeparator
unfolding reason_text
returns-in-BadSeparator c = rw c.in-BadSeparator.is c.rule_at-in-BadSeparator.ensures

pub returns-in-MissingSeparator : goal.returns-in-MissingSeparator
unfolding reason_text
returns-in-MissingSeparator c = rw c.in-MissingSeparator.is c.missing_separator.ensures

pub returns-in-BadStuckSet : goal.returns-in-BadStuckSet
unfolding reason_text
returns-in-BadStuckSet c = rw c.in-BadStuckSet.is (search rules)

pub returns-in-BadArc : goal.returns-in-BadArc
unfolding reason_text
returns-in-BadArc c = rw c.in-BadArc.is c.rule_at-in-BadArc.ensures

pub returns-in-BadTree : goal.returns-in-BadTree
unfolding reason_text
returns-in-BadTree c = rw c.in-BadTree.is c.rule_at-in-BadTree.ensures

pub returns-in-MissingDirection : goal.returns-in-MissingDirection
unfolding reason_text
returns-in-MissingDirection c = rw c.in-MissingDirection.is c.missing_direction.ensures
