use Rattle.staat_model.proofs.SetMembers.{has_of, of_bit}
use Rattle.staat_model.proofs.set.PartSet.bits.Goals as goal

pub returns-clause-bit : goal.returns-clause-bit
returns-clause-bit c q = (λ h. (has_of c.self.inside.bits c.args.self c.self.view_is q h).1, of_bit c.self.inside.bits c.args.self c.self.view_is c.self.invariant q)

pub returns-clause-small : goal.returns-clause-small
returns-clause-small c q h = (has_of c.self.inside.bits c.args.self c.self.view_is q h).0
