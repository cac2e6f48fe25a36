use Rattle.staat_ring.specs.BlockCounts.{parts_at}
use Rattle.staat_ring.proofs.ArcLaw.{blocking_is}
use Rattle.staat_ring.proofs.counted_signs.CountedSigns.graph.Goals as goal

pub returns : goal.returns
returns c a b la lb =
    let g = c.graph.ensures a b la lb in
    let k = blocking_is c.args.self.now c.self.inside.states.items c.self.inside.counts c.self.view_is c.self.invariant (parts_at a b) in
    (λ h. k.0 (g.0 h), λ h. g.1 (k.1 h))
