use Rattle.std.proofs.Common.{◌∙◌}
use Rattle.staat_ring.proofs.StopReading.{entry_within, next_cursor}
use Rattle.staat_ring.proofs.rings.Rings.next_entry.Goals as goal

pub next_entry-requires : goal.next_entry-requires
next_entry-requires c = entry_within c.self.inside.planes c.self.inside.count c.self.inside.order.items c.self.inside.arrays c.args.self.now c.self.view_is c.self.invariant.arrays c.sizes.ensures.circles c.sizes.ensures.vertices c.requires.0 c.requires.2.stop.place c.requires.2.stop.stop c.requires.2.stop.at c.requires.2.entry c.args.at c.requires.2.here

pub returns : goal.returns
returns c = λ d m s i at lt here. c.next_entry.ensures ∙ next_cursor c.self.inside.planes c.self.inside.count c.self.inside.order.items c.self.inside.arrays c.args.self.now c.self.view_is c.self.invariant.arrays c.sizes.ensures.circles c.sizes.ensures.vertices d m s at i c.args.at here lt
