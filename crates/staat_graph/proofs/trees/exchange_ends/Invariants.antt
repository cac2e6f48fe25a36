use Rattle.std.proofs.Common.{◌≡◌, ◌++◌, drop, map, take}
use Rattle.staat_model.specs.Bridges.{swapped}
use Rattle.staat_graph.proofs.trees.exchange_ends.Given as goal

abbrev pub invariant-loop-arc : goal.invariant-loop-arc
invariant-loop-arc l = l.arcs ≡ map swapped (take l.arc-index l.fn.arcs) ++ drop l.arc-index l.fn.arcs
