use Rattle.std.proofs.Common.{ap, length, sym, ◌∙◌}
use Rattle.staat_ring.proofs.Divided.{length-stops}
use Rattle.staat_ring.proofs.stop_list.Stops.len.Goals as goal

pub returns : goal.returns
returns c = c.len.ensures ∙ (c.self.inside.ends.ok.0 ∙ (sym (length-stops 0 c.self.inside.ends.items c.self.inside.entries.items) ∙ ap length c.self.view_is))
