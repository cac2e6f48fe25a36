use Rattle.std.proofs.Common.{◌≡◌, ◌≤◌, length}
use Rattle.staat_ring.specs.Links.{give_all}
use Rattle.staat_ring.specs.RingViews.{entries_of}
use Rattle.staat_ring.proofs.arrays.RingArrays.give_plane.Given as goal

abbrev pub invariant-loop-c : goal.invariant-loop-c
invariant-loop-c l = record {
  arrays : give_all (entries_of l.planes l.p l.c) l.self ≡ give_all (entries_of l.planes l.p l.planes) l.initial.self;
  length : length l.self.home ≡ length l.initial.self.home;
  within : l.c ≤ l.planes;
}

abbrev pub decreases-loop-c : goal.decreases-loop-c
decreases-loop-c l = l.c
