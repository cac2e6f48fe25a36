use Rattle.std.proofs.Common.{◌≡◌, length}
use Rattle.staat_ring.specs.Links.{take_all}
use Rattle.staat_ring.specs.RingViews.{entries_of}
use Rattle.staat_ring.proofs.arrays.RingArrays.take_plane.Given as goal

abbrev pub invariant-loop-c : goal.invariant-loop-c
invariant-loop-c l = record {
  arrays : l.self ≡ take_all (entries_of l.planes l.p l.c) l.initial.self;
  length : length l.self.home ≡ length l.initial.self.home;
}
