use Rattle.std.proofs.Common.{subst}
use Rattle.staat_model.specs.Assemblies.{IsSound}
use Rattle.staat_model.proofs.product.SoundProduct.product.Goals as goal

pub returns-clause-sound : goal.returns-clause-sound
returns-clause-sound c = subst IsSound c.self.view_is c.self.invariant
