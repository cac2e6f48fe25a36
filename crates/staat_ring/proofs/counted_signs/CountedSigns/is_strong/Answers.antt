use Rattle.staat_ring.proofs.ArcLaw.{blocking_strong}
use Rattle.staat_ring.proofs.counted_signs.CountedSigns.is_strong.Goals as goal

pub returns : goal.returns
returns c = blocking_strong c.args.self.now c.self.inside.states.items c.self.inside.counts c.args.w c.is_strong.result c.self.view_is c.self.invariant c.is_strong.ensures
