use Rattle.std.proofs.Common.{arith, refl}
use Rattle.staat_graph.proofs.Arcs.{empty_graph}
use Rattle.staat_graph.proofs.graph.Graph.reversed.Goals as goal

pub loop-a-init : goal.loop-a-init
loop-a-init c = record { long = refl; turned = λ b q. (λ h. absurd (empty_graph b q h), λ p. absurd (omega (arith, p.0))) }
