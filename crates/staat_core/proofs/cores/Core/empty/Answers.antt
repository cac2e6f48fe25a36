use Rattle.std.proofs.Common.{refl, [], ◌∷◌}
use Rattle.staat_core.proofs.Growing.{axes_room}
use Rattle.staat_core.proofs.cores.Core.empty.Goals as goal

pub returns : goal.returns
returns c = record {
  room = axes_room _ refl refl refl refl (λ i. c.of.ensures i ∷ c.of-2.ensures i ∷ c.of-3.ensures i ∷ []);
  none = refl;
}
