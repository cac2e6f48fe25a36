use Rattle.std.proofs.Common.{◌<◌, length, take, All}
use Rattle.staat_ring.specs.Linking.{AreHomedAt}
use Rattle.staat_ring.specs.Numbered.{entry_numbers}
use Rattle.staat_ring.proofs.Rows.{IsPartly}
use Rattle.staat_ring.proofs.linking.link_entries.Given as goal

abbrev pub invariant-loop-e : goal.invariant-loop-e
invariant-loop-e l = record {
  ring : IsPartly l.initial.vertices l.vertices l.v (take l.e-index (entry_numbers l.planes l.c l.entries));
  homes : AreHomedAt l.initial.home.items l.home.items l.v (take l.e-index (entry_numbers l.planes l.c l.entries));
  within : All (λ x. x < length l.initial.home.items) l.home.items;
}
