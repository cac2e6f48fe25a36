use Rattle.std.proofs.Common.{ap, sym, ◌∙◌}
use Rattle.std.specs.FinSet as set
use Rattle.staat_model.proofs.SetBits.{len-set_of_word}
use Rattle.staat_model.proofs.set.PartSet.count.Goals as goal

pub returns-clause-is : goal.returns-clause-is
returns-clause-is c = sym (len-set_of_word c.self.inside.bits c.self.invariant) ∙ ap set.len c.self.view_is
