use Rattle.std.proofs.Common.{◌∙◌, ap, sym, length}
use Rattle.staat_pairs.specs.Tables.{facets_of}
use Rattle.staat_pairs.proofs.TableLemmas.{facets_reversed}
use Rattle.staat_pairs.proofs.ReversedFacets.{length-reversed}
use Rattle.staat_planes.proofs.table.PlaneTable.facet_count.Goals as goal
use Rattle.std.proofs.Common.{refl}

pub returns-else-arc-clause-is : goal.returns-else-arc-clause-is
returns-else-arc-clause-is c =
    let list = facets_of c.args.self.now c.back.result in
    c.kept_count-else-arc.ensures.is ∙ sym (ap length (facets_reversed c.args.self.now c.args.arc c.back.result list c.requires c.if-arc.false c.back.ensures refl) ∙ length-reversed list)
