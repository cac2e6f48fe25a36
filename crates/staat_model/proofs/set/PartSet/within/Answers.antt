use Rattle.staat_model.proofs.SetTests.{within_iff}
use Rattle.staat_model.proofs.set.PartSet.within.Goals as goal

pub returns : goal.returns
returns c = within_iff c.self.inside.bits c.o.inside.bits c.args.self c.args.o c.self.view_is c.o.view_is c.self.invariant c.o.invariant
