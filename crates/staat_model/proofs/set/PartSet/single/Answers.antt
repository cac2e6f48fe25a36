use Rattle.staat_model.proofs.SetMembers.{has-single}
use Rattle.staat_model.proofs.SetBits.{set_of_word-pow}
use Rattle.staat_model.proofs.set.PartSet.single.Goals as goal

pub returns-clause-is : goal.returns-clause-is
returns-clause-is c = set_of_word-pow c.args.p c.requires

pub returns-clause-members : goal.returns-clause-members
returns-clause-members c q = rw (returns-clause-is c) (has-single c.args.p q)
