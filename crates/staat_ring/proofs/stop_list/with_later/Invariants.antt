use Rattle.std.proofs.Common.{◌≡◌, ◌+◌, ◌++◌, length, map, take}
use Rattle.staat_ring.proofs.stop_list.with_later.Given as goal

abbrev pub invariant-loop-k : goal.invariant-loop-k
invariant-loop-k l = record {
  all : l.k-end ≡ length l.fn.half.items;
  so_far : l.ends.items ≡ l.fn.half.items ++ map (λ end. l.fn.count + end) (take l.k l.fn.half.items);
}
