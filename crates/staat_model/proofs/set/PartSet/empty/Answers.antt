use Rattle.staat_model.proofs.SetMembers.{has-empty, set_of_word-zero}
use Rattle.std.proofs.Common.{subst}
use Rattle.staat_model.specs.Sets.{Has}
use Rattle.staat_model.proofs.set.PartSet.empty.Goals as goal

pub returns-clause-is : goal.returns-clause-is
returns-clause-is c = set_of_word-zero

pub returns-clause-members : goal.returns-clause-members
returns-clause-members c q h = has-empty q (subst (λ t. Has t q) (returns-clause-is c) h)
