use Rattle.staat_model.proofs.SetMembers.{has-difference}
use Rattle.std.proofs.Common.{◌∙◌}
use Rattle.std.specs.FinSet as set
use Rattle.staat_model.proofs.SetBits.{set_of_word-without}
use Rattle.staat_model.proofs.set.PartSet.without.Goals as goal

pub returns-clause-is : goal.returns-clause-is
returns-clause-is c = set_of_word-without c.self.inside.bits c.o.inside.bits c.o.invariant ∙ (λ i. set.difference (c.self.view_is i) (c.o.view_is i))

pub returns-clause-members : goal.returns-clause-members
returns-clause-members c q = rw (returns-clause-is c) (has-difference c.args.self c.args.o q)
