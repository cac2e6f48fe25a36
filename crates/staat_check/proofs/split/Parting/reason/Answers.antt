use Rattle.std.proofs.Common.{refl}
use Rattle.std.proofs.lemmas.Bool.{false≢true}
use Rattle.staat_model.specs.Reasons.{bad_separator}
use Rattle.staat_check.proofs.MissingLemmas.{missing_reason, split_holds}
use Rattle.staat_check.proofs.split.Parting.reason.Goals as goal

pub returns-in-Some : goal.returns-in-Some
returns-in-Some c = bad_separator c.in-Some.m (λ e. false≢true (c.if-is_same.ensures.1 e)) c.in-Some.ensures.answer refl

pub returns-in-Some-first_missing : goal.returns-in-Some-first_missing
returns-in-Some-first_missing c = missing_reason c.args.self.now.assembly.now c.args.self.now.side c.args.self.now.rest c.args.self.now.d c.args.self.now.seps.now c.args.node c.args.line c.in-Some-first_missing.arc (λ e. false≢true (c.if-is_same.ensures.1 e)) c.in-None.ensures.answer c.in-Some-first_missing.ensures

pub returns-in-None-first_missing : goal.returns-in-None-first_missing
returns-in-None-first_missing c = split_holds c.args.self.now.assembly.now c.args.self.now.side c.args.self.now.rest c.args.self.now.d c.args.self.now.seps.now (λ e. false≢true (c.if-is_same.ensures.1 e)) c.in-None.ensures.answer c.requires.ascending c.in-None-first_missing.ensures
