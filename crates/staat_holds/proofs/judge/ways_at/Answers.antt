use Rattle.staat_holds.proofs.LinkLemmas.{ways_end, ways_next}
use Rattle.staat_holds.proofs.judge.ways_at.Goals as goal

pub loop-link-preserved : goal.loop-link-preserved
loop-link-preserved c = ways_next c.args.d c.args.links.now c.loop-link.link-index c.link-item.result c.loop-link.ways.items c.add_ways.new.ways.items c.loop-link-test.true c.link-item.is c.in_ok-add_ways.ensures c.loop-link.invariant

pub returns : goal.returns
returns c = ways_end c.args.d c.args.links.now c.loop-link.link-index c.loop-link.ways.items c.loop-link-test.false c.loop-link.invariant
