use Rattle.std.proofs.Common.{◌≡◌, take}
use Rattle.staat_core.specs.Cores.{GoesOn, HasCanons, HasRoom, core_pairs, core_planes}
use Rattle.staat_core.proofs.cores.Core.put_facets.Given as goal

abbrev pub invariant-loop-n : goal.invariant-loop-n
invariant-loop-n l = record {
  room : HasRoom l.self;
  planes : GoesOn (core_planes l.initial.self) (core_planes l.self);
  pairs : core_pairs l.self ≡ core_pairs l.initial.self;
  put : HasCanons (core_planes l.self) (take l.n-index l.facets);
}
