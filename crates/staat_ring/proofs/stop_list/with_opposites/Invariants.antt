use Rattle.std.proofs.Common.{◌≡◌, ◌++◌, length, map, take}
use Rattle.staat_ring.specs.Builds.{opposite}
use Rattle.staat_ring.proofs.stop_list.with_opposites.Given as goal

abbrev pub invariant-loop-i : goal.invariant-loop-i
invariant-loop-i l = record {
  all : l.i-end ≡ length l.fn.half.items;
  so_far : l.entries.items ≡ l.fn.half.items ++ map opposite (take l.i l.fn.half.items);
}
