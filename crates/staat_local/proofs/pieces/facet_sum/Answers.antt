use Rattle.std.proofs.Common.{ap, ◌∙◌, sym}
use Rattle.staat_vec.specs.Vectors.{plus}
use Rattle.staat_pairs.specs.Tables.{facets_of}
use Rattle.staat_local.proofs.Points.{sum_within, total_more}
use Rattle.staat_local.proofs.pieces.facet_sum.Goals as goal

pub loop-m-preserved : goal.loop-m-preserved
loop-m-preserved c = record {
  is = c.add-sum.ensures.value ∙ ap (λ s. plus s c.facet.result) c.loop-m.invariant.is ∙ sym (total_more (facets_of c.args.table.now c.args.arc) c.loop-m.m c.facet.result c.facet.ensures.is);
  size = sum_within c.loop-m.m 549755813888 c.loop-m.sum c.facet.result c.add-sum.result c.add-sum.ensures.value c.loop-m.invariant.size c.facet.ensures.rules.within;
}
