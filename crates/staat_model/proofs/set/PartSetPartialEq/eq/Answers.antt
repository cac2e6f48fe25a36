use Rattle.std.proofs.Common.{ap, sym, ◌∙◌, eq-eqb, eqb-true}
use Rattle.std.specs.Bool.{one_answer}
use Rattle.staat_model.specs.Bits.{set_of_word, word_of_set}
use Rattle.staat_model.specs.SetFacts.{word_of_set-set_of_word, equal_sets-decides}
use Rattle.staat_model.proofs.set.PartSetPartialEq.eq.Goals as goal

pub returns-clause-same : goal.returns-clause-same
returns-clause-same c = (
  λ h. sym c.self.view_is ∙ ap set_of_word (eqb-true c.self.inside.bits c.o.inside.bits h) ∙ c.o.view_is,
  λ e. eq-eqb c.self.inside.bits c.o.inside.bits
      (sym (word_of_set-set_of_word c.self.inside.bits c.self.invariant) ∙ ap word_of_set (c.self.view_is ∙ e ∙ sym c.o.view_is) ∙ word_of_set-set_of_word c.o.inside.bits c.o.invariant),
)

pub returns-clause-eq : goal.returns-clause-eq
returns-clause-eq c = one_answer _ _ (returns-clause-same c) (equal_sets-decides c.args.self.now c.args.o.now)
