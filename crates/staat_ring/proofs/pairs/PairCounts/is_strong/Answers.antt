use Rattle.staat_ring.proofs.ArcLaw.{full_strong}
use Rattle.staat_ring.proofs.pairs.PairCounts.is_strong.Goals as goal

pub returns : goal.returns
returns c = full_strong c.self.inside.pairs.items c.args.self.now c.self.inside.blocked c.args.w c.is_strong.result c.self.view_is c.self.invariant c.bits-bits.ensures.small c.is_strong.ensures
