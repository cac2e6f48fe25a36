use Rattle.staat_holds.proofs.LinkLemmas.{planes_end, planes_next}
use Rattle.staat_holds.proofs.planes.add_planes.Goals as goal

pub loop-facet-preserved : goal.loop-facet-preserved
loop-facet-preserved c = record {
  others = planes_next c.args.others.now.items c.loop-facet.others.items c.add_plane.new.others.items c.args.facets.now c.loop-facet.facet-index _ c.loop-facet-test.true c.in_ok-add_plane.ensures.others c.loop-facet.invariant.others;
  within = c.in_ok-add_plane.ensures.within;
}

pub returns-clause-others : goal.returns-clause-others
returns-clause-others c = planes_end c.args.others.now.items c.loop-facet.others.items c.args.facets.now c.loop-facet.facet-index c.loop-facet-test.false c.loop-facet.invariant.others
