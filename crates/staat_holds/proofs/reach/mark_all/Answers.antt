use Rattle.std.proofs.Common.{◌∙◌}
use Rattle.staat_holds.proofs.reach.mark_all.Goals as goal

pub rounds-preserved : goal.rounds-preserved
rounds-preserved c = record {
  long = c.mark_next.auto.marks ∙ c.rounds.invariant.long;
  kept = λ k h. c.mark_next.ensures.kept k (c.rounds.invariant.kept k h);
  reached = λ x r. c.mark_next.ensures.reached x (c.rounds.invariant.reached x r);
}

pub returns-clause-kept : goal.returns-clause-kept
returns-clause-kept c = λ k h. c.mark_next.ensures.kept k (c.rounds.invariant.kept k h)

pub returns-clause-reached : goal.returns-clause-reached
returns-clause-reached c = λ x r. c.mark_next.ensures.reached x (c.rounds.invariant.reached x r)
