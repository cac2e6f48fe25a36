use Rattle.staat_holds.proofs.LinkLemmas.{both_ways}
use Rattle.staat_holds.proofs.judge.add_ways.Goals as goal

pub returns : goal.returns
returns c = both_ways c.args.d c.neg.result c.args.link.now c.as_slice-facets.result.now c.blocks-2.result c.blocks-3.result c.args.ways.now.items c.add_way.new.ways.items c.add_way-2.new.ways.items c.as_slice-facets.ensures c.neg.ensures.value c.blocks-2.ensures.ahead c.blocks-3.ensures.ahead c.in_ok-add_way.ensures c.in_ok-add_way-2.ensures
