use Rattle.std.proofs.Common.{◌≢◌, sym, subst, All}
use Rattle.staat_vec.specs.declared.vector.TheConstants.{NORMAL}
use Rattle.staat_vec.specs.Vectors.{IsWithin, origin}
use Rattle.staat_holds.proofs.LinkLemmas.{node_few, none_zero}
use Rattle.staat_holds.proofs.links.link_of.Goals as goal

pub returns-clause-link : goal.returns-clause-link
returns-clause-link g c = record {
  from = node_few c.args.nodes.now c.args.count c.args.pair.a c.node_of.result c.requires.first c.node_of.ensures;
  to = node_few c.args.nodes.now c.args.count c.args.pair.b c.node_of-2.result c.requires.second c.node_of-2.ensures;
  some = subst (All (λ n. n ≢ origin)) (sym c.from_vec.ensures) (none_zero c.piece_of-first.result.now c.piece_of-second.result.now c.in_ok-facets.facets.items c.in_ok-facets.ensures.facets);
  within = subst (All (IsWithin NORMAL)) (sym c.from_vec.ensures) c.in_ok-facets.ensures.size;
}
