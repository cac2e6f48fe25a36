use Rattle.staat_holds.proofs.LinkLemmas.{all_in_order, link_planes_end, link_planes_next}
use Rattle.staat_holds.proofs.planes.others_of.Goals as goal

pub loop-link-preserved : goal.loop-link-preserved
loop-link-preserved c = record {
  others = link_planes_next c.loop-link.others.items c.add_planes.new.others.items c.args.links.now c.loop-link.link-index c.link-item.result c.as_slice.result.now c.loop-link-test.true c.link-item.is c.as_slice.ensures c.in_ok-add_planes.ensures.others c.loop-link.invariant.others;
  within = c.in_ok-add_planes.ensures.within;
}

pub returns-clause-others : goal.returns-clause-others
returns-clause-others c = link_planes_end c.loop-link.others.items c.in_order.result.items c.args.links.now c.loop-link.link-index c.loop-link-test.false c.in_order.ensures c.loop-link.invariant.others

pub returns-clause-within : goal.returns-clause-within
returns-clause-within c = all_in_order c.loop-link.others.items c.in_order.result.items c.in_order.ensures c.loop-link.invariant.within
