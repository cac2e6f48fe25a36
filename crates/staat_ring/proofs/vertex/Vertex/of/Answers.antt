use Rattle.std.proofs.Common.{sym}
use Rattle.std.proofs.lemmas.Option.{get_or_from_slice_get}
use Rattle.staat_vec.specs.Primitives.{primitive}
use Rattle.staat_vec.specs.Vectors.{cross, origin}
use Rattle.staat_ring.specs.Rings.{facet_by}
use Rattle.staat_ring.proofs.vertex.Vertex.of.Goals as goal

pub invariant_of-result : goal.invariant_of-result
invariant_of-result c = record {
  apart = c.set-set.ensures.rules.planes.apart c.args.c c.args.entry.plane c.plane-own.result c.plane-other.result c.plane-own.ensures.is c.plane-other.ensures.is (λ e. c.requires.different (sym e));
  own_within = c.plane-own.ensures.rules.within;
  other_within = c.plane-other.ensures.rules.within;
}

pub returns : goal.returns
returns c =
    let planes = c.args.table.now.planes in
    let own = sym (get_or_from_slice_get planes c.args.c c.plane-own.result origin c.plane-own.ensures.is) in
    let other = sym (get_or_from_slice_get planes c.args.entry.plane c.plane-other.result origin c.plane-other.ensures.is) in
    (λ i. facet_by c.args.entry.turned (primitive (cross (own i) (other i))))
