use Rattle.std.proofs.Common.{◌≡◌, take}
use Rattle.staat_rest.specs.Turning.{original_nodes}
use Rattle.staat_rest.proofs.turning.turned_nodes.Given as goal

abbrev pub invariant-loop-node : goal.invariant-loop-node
invariant-loop-node l = l.turned.items ≡ original_nodes l.heads (take l.node-index l.nodes)
