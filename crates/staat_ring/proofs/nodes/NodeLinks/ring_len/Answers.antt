use Rattle.staat_ring.proofs.StopReading.{IsAtPlace, at_next}
use Rattle.staat_ring.proofs.nodes.NodeLinks.ring_len.Goals as goal
use Rattle.std.proofs.Common.{arith}
use Rattle.std.proofs.lemmas.Grind.{common_steps}

pub loop-count-preserved : goal.loop-count-preserved
loop-count-preserved c = grind (arith, common_steps, IsAtPlace, at_next)
