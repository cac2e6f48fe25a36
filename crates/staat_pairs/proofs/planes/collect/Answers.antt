use Rattle.std.proofs.Common.{subst, sym}
use Rattle.staat_vec.specs.Primitives.{IsPrimitive, canon}
use Rattle.staat_pairs.specs.PlaneNumbers.{IsNormalListed}
use Rattle.staat_pairs.proofs.PlaneNumbering.{all_placed, collected, collects_more, facet_placed}
use Rattle.staat_pairs.proofs.planes.collect.Goals as goal

pub list_normal-requires : goal.list_normal-requires
list_normal-requires c = subst IsPrimitive (sym c.facet-item.is) (c.requires c.loop-facet.facet-index c.facet-item.result c.loop-facet-test.true)

pub loop-facet-preserved : goal.loop-facet-preserved
loop-facet-preserved c =
    let facet = c.facet-item.result in
    let is = subst (λ n. IsNormalListed c.loop-facet.listed.items n c.list_normal.new.listed.items c.in_ok-place.place) c.facet-item.is c.in_ok-place.ensures in record {
      listed = collects_more c.args.facets.now c.loop-facet.listed.items c.list_normal.new.listed.items c.loop-facet.facet-index c.in_ok-place.place facet c.loop-facet-test.true c.loop-facet.invariant.listed is;
      places = facet_placed c.loop-facet.listed.items c.list_normal.new.listed.items c.args.facets.now c.loop-facet.places.items c.push.new.self.items c.loop-facet.facet-index c.in_ok-place.place facet c.loop-facet-test.true c.loop-facet.invariant.places is c.in_ok-push.ensures.items;
    }

pub returns-clause-members : goal.returns-clause-members
returns-clause-members c = collected c.args.facets.now c.loop-facet.listed.items c.loop-facet.facet-index c.loop-facet-test.false c.loop-facet.invariant.listed

pub returns-clause-places : goal.returns-clause-places
returns-clause-places c = all_placed canon c.loop-facet.listed.items c.args.facets.now c.loop-facet.places.items c.loop-facet.facet-index c.loop-facet-test.false c.loop-facet.invariant.places
