use Rattle.std.proofs.Common.{◌≡◌, length}
use Rattle.staat_ring.specs.Linking.{AreStopsLinked}
use Rattle.staat_ring.proofs.linking.link_stops.Given as goal

abbrev pub invariant-loop-k : goal.invariant-loop-k
invariant-loop-k l = record {
  all : l.k-end ≡ length l.stops;
  linked : AreStopsLinked l.planes l.c l.stops l.k l.initial.vertices l.vertices l.initial.home.items l.home.items;
}
