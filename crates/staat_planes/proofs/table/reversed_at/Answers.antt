use Rattle.std.proofs.Common.{◌∙◌, ap, sym}
use Rattle.std.specs.Prelude.{Some}
use Rattle.staat_vec.specs.Vectors.{negative}
use Rattle.staat_pairs.proofs.ReversedFacets.{reversed_at}
use Rattle.staat_planes.proofs.table.reversed_at.Goals as goal

pub returns : goal.returns
returns c =
    reversed_at c.args.facets.now c.args.m c.index-facets-facets.result c.requires
    ∙ ap Some (sym (c.neg.ensures.value ∙ ap negative (c.vector.ensures.is ∙ c.index-facets-facets.is)))
