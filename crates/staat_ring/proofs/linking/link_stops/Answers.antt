use Rattle.staat_ring.proofs.Rows.{stop_linked}
use Rattle.std.proofs.Common.{◌<◌, subst}
use Rattle.staat_ring.proofs.linking.link_stops.Goals as goal

pub loop-k-preserved : goal.loop-k-preserved
loop-k-preserved c = record {
  all = c.loop-k.invariant.all;
  linked = stop_linked c.args.planes c.args.c c.requires.circle c.args.stops.now c.requires.stops c.loop-k.k (subst (λ n. c.loop-k.k < n) c.loop-k.invariant.all c.loop-k-test.true) c.node_of-v.result c.stop-entries.result.now c.node_of-v.ensures.is c.stop-entries.ensures
      c.args.vertices.now c.loop-k.vertices c.link_entries.new.vertices c.args.home.now.items c.loop-k.home.items c.link_entries.new.home.items c.loop-k.invariant.linked
      c.link_entries.ensures.ring c.link_entries.ensures.others c.link_entries.ensures.length c.link_entries.ensures.homes c.link_entries.ensures.within;
}
