use Rattle.staat_ring.proofs.PairNumbers.{want_value}
use Rattle.staat_ring.proofs.counted_signs.CountedSigns.want.Goals as goal

pub returns : goal.returns
returns c = want_value c.args.self.now c.self.inside.states.items c.self.inside.counts c.want.new.self c.args.q c.args.wanted c.args.parts c.self.view_is c.want.ensures
