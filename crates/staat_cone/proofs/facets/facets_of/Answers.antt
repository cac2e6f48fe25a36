use Rattle.std.proofs.lemmas.Result.{IfOk-weaker}
use Rattle.staat_cone.proofs.Sources.{overlap_by_list, listed_within}
use Rattle.staat_cone.proofs.facets.facets_of.Goals as goal

pub returns-clause-overlap : goal.returns-clause-overlap
returns-clause-overlap c =
    let pieces = c.find_facets.ensures.pieces in
    IfOk-weaker c.find_facets.result _ _ (λ list listed. overlap_by_list c.args.p.now c.args.q.now list.items pieces.0 pieces.1 listed) c.find_facets.ensures.facets

pub returns-clause-size : goal.returns-clause-size
returns-clause-size c =
    let pieces = c.find_facets.ensures.pieces in
    IfOk-weaker c.find_facets.result _ _ (λ list listed. listed_within c.args.p.now c.args.q.now list.items pieces.0 pieces.1 listed) c.find_facets.ensures.facets
