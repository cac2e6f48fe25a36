use Rattle.std.proofs.Common.{◌∙◌, ap}
use Rattle.staat_vec.proofs.Options.{one_answer}
use Rattle.staat_decide.specs.declared.table.KeptFacets.{KeptFacets}
use Rattle.staat_decide.proofs.table.has_pair.Goals as goal

pub returns-in-Some : goal.returns-in-Some
returns-in-Some c = (
  λ e. record { kept = c.in-Some.kept; is = c.in-Some.is; same = c.is_pair.ensures.0 e },
  λ k. c.is_pair.ensures.1 (ap (λ (x : KeptFacets). x.pair) (one_answer c.args.slot.now c.in-Some.kept k.kept c.in-Some.is k.is) ∙ k.same),
)
