use Rattle.staat_plan.proofs.MarkLemmas.{mark_holds_lemma}
use Rattle.staat_plan.proofs.laws.mark_holds.Goals as goal

pub returns : goal.returns
returns c parts w try side is step = mark_holds_lemma parts is w try side step
