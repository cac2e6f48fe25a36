use Rattle.staat_model.proofs.SetMembers.{least_of, least_small}
use Rattle.staat_model.proofs.set.PartSet.least.Goals as goal

pub returns-clause-least : goal.returns-clause-least
returns-clause-least c = least_of c.self.inside.bits c.args.self c.self.view_is c.self.invariant c.requires

pub returns-clause-small : goal.returns-clause-small
returns-clause-small c = least_small c.self.inside.bits c.args.self c.self.view_is c.self.invariant c.requires
