use Rattle.staat_model.proofs.SetMembers.{has-union}
use Rattle.std.proofs.Common.{◌∙◌}
use Rattle.std.specs.FinSet as set
use Rattle.staat_model.proofs.SetBits.{set_of_word-or}
use Rattle.staat_model.proofs.set.PartSet.union.Goals as goal

pub returns-clause-is : goal.returns-clause-is
returns-clause-is c = set_of_word-or c.self.inside.bits c.o.inside.bits ∙ (λ i. set.union (c.self.view_is i) (c.o.view_is i))

pub returns-clause-members : goal.returns-clause-members
returns-clause-members c q = rw (returns-clause-is c) (has-union c.args.self c.args.o q)
