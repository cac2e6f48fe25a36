use Rattle.std.proofs.Common.{◌∙◌, ap}
use Rattle.std.specs.FinSet as set
use Rattle.staat_model.proofs.SetBits.{contains-word}
use Rattle.staat_model.proofs.set.PartSet.has.Goals as goal

pub returns : goal.returns
returns c = contains-word c.self.inside.bits c.args.p c.requires ∙ ap (λ s. set.contains s c.args.p) c.self.view_is
