use Rattle.staat_model.specs.Cones.{differences}
use Rattle.staat_model.proofs.PieceFacets.{differences_are, from_cone_facet, to_cone_facet}
use Rattle.staat_model.proofs.piece_laws.facets_of_differences.Goals as goal

pub returns : goal.returns
returns c p q n =
    let are = differences_are p q in
    (to_cone_facet p q (differences p q) n are, from_cone_facet p q (differences p q) n are)
