use Rattle.staat_ring.proofs.Made.{of_a_set}
use Rattle.staat_ring.proofs.laws.rings_of_a_set.Goals as goal

pub returns : goal.returns
returns c = of_a_set
