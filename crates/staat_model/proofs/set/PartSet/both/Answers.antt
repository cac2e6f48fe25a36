use Rattle.std.proofs.Common.{◌∙◌}
use Rattle.std.specs.FinSet as set
use Rattle.staat_model.proofs.SetBits.{set_of_word-and}
use Rattle.staat_model.proofs.SetMembers.{has-intersection}
use Rattle.staat_model.proofs.set.PartSet.both.Goals as goal

pub returns-clause-is : goal.returns-clause-is
returns-clause-is c = set_of_word-and c.self.inside.bits c.o.inside.bits ∙ (λ i. set.intersection (c.self.view_is i) (c.o.view_is i))

pub returns-clause-members : goal.returns-clause-members
returns-clause-members c q = rw (returns-clause-is c) (has-intersection c.args.self c.args.o q)
