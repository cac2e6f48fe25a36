use Rattle.std.proofs.Common.{ap, ◌∙◌}
use Rattle.staat_model.specs.Bits.{set_of_word}
use Rattle.staat_model.proofs.SetBits.{first_bits, has-below, set_of_word-ones}
use Rattle.staat_model.proofs.set.PartSet.first.Goals as goal

pub returns-clause-is : goal.returns-clause-is
returns-clause-is c = ap set_of_word (first_bits c.args.n c.requires) ∙ set_of_word-ones c.args.n c.requires

pub returns-clause-members : goal.returns-clause-members
returns-clause-members c q = rw (returns-clause-is c) (has-below c.args.n q)
