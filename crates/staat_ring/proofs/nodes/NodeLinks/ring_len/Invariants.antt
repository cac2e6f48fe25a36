use Rattle.std.proofs.Common.{◌≡◌, ℕ, List, length}
use Rattle.staat_ring.specs.Stands.{IsShortRing}
use Rattle.staat_ring.proofs.StopReading.{IsAtPlace}
use Rattle.staat_ring.proofs.nodes.NodeLinks.ring_len.Given as goal

abbrev pub invariant-loop-count : goal.invariant-loop-count
invariant-loop-count l = record {
  all : l.count-end ≡ length l.self.next;
  at : (xs : List ℕ) → IsShortRing l.self l.head xs → IsAtPlace l.head xs l.node l.count;
}
