use Rattle.std.proofs.Common.{◌≡◌, length, map, take}
use Rattle.staat_ring.specs.Numbered.{head_number, node_number}
use Rattle.staat_ring.proofs.Rows.{IsPartly}
use Rattle.staat_ring.proofs.nodes.NodeLinks.link.Given as goal

abbrev pub invariant-loop-k : goal.invariant-loop-k
invariant-loop-k l = record {
  all : l.k-end ≡ length l.stops;
  partly : IsPartly l.initial.self l.self (head_number l.planes l.c) (take l.k (map (node_number l.planes l.c) l.stops));
}
