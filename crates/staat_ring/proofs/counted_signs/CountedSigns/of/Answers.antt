use Rattle.staat_ring.proofs.PairNumbers.{all_told, none_told}
use Rattle.staat_ring.proofs.counted_signs.CountedSigns.of.Goals as goal

pub loop-q-init : goal.loop-q-init
loop-q-init c = none_told c.args.table.now c.in_ok-signs.signs c.len.result c.len.ensures.is c.in_ok-signs.ensures

pub returns : goal.returns
returns c = all_told c.args.table.now c.set-set.ensures.rules c.loop-q.signs c.loop-q.q c.loop-q-test.false c.loop-q.invariant
