use Rattle.std.proofs.Common.{◌∙◌, false, sym}
use Rattle.std.specs.Prelude.{IsTrue}
use Rattle.std.proofs.lemmas.Bool.{false≢true}
use Rattle.std.proofs.lemmas.List.Elements.{All-more}
use Rattle.std.proofs.lemmas.Option.{slice_get-get_or}
use Rattle.staat_vec.proofs.LoopAnswers.{all_kept, not_all}
use Rattle.staat_holds.proofs.reach.are_marked.Goals as goal

pub returns-then-not-mark : goal.returns-then-not-mark
returns-then-not-mark c = not_all IsTrue c.args.marks.now c.loop-mark.mark-index _ (slice_get-get_or c.args.marks.now c.loop-mark.mark-index false c.loop-mark-test.true)
    (λ h. false≢true (sym c.if-not-mark.true ∙ h))

pub loop-mark-preserved : goal.loop-mark-preserved
loop-mark-preserved c = All-more IsTrue c.args.marks.now c.loop-mark.mark-index false c.loop-mark-test.true c.loop-mark.invariant c.if-not-mark.false

pub returns : goal.returns
returns c = all_kept IsTrue c.args.marks.now c.loop-mark.mark-index c.loop-mark-test.false c.loop-mark.invariant
