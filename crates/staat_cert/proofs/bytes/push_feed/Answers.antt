use Rattle.std.proofs.Common.{◌∙◌, ◌∷◌, [], arith, refl}
use Rattle.staat_cert.proofs.TextLemmas.{bad_after_end}
use Rattle.staat_cert.proofs.TextSteps.{made_bad, refused_there, stays_bad, taken_there}
use Rattle.staat_cert.proofs.bytes.push_feed.Goals as goal

pub returns-then-progress-clause-read : goal.returns-then-progress-clause-read
returns-then-progress-clause-read g c = λ text h. stays_bad _ _ _ _ _ text _ c.if-progress.true h

pub returns-then-is_whole-clause-read : goal.returns-then-is_whole-clause-read
returns-then-is_whole-clause-read g c = λ text h.
    made_bad _ _ _ _ _ (bad_after_end _ _ _ _ text (h.good c.if-progress.false) (10 ∷ []) _ (omega arith) c.if-is_whole.true c.is_whole.ensures)

pub returns-then-taken-clause-read : goal.returns-then-taken-clause-read
returns-then-taken-clause-read g c = λ text h.
    let items = c.clear.ensures.items in
    rw items (taken_there g.S.TextStage.spells _ _ c.args.progress.now.line.items c.as_slice-line.result.now _ _ text c.in_ok-taken.ensures
    (c.as_slice-line.ensures.value ∙ c.in_ok-push.ensures.items) (h.good c.if-progress.false) _ _ c.if-progress.false c.if-taken.true refl)

pub returns-else-taken-clause-read : goal.returns-else-taken-clause-read
returns-else-taken-clause-read g c = λ text h.
    refused_there g.S.TextStage.spells _ _ c.args.progress.now.line.items c.as_slice-line.result.now _ _ text c.in_ok-taken.ensures
    (c.as_slice-line.ensures.value ∙ c.in_ok-push.ensures.items) (h.good c.if-progress.false) _ c.if-taken.false
