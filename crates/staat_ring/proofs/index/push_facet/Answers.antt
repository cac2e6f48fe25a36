use Rattle.std.proofs.Common.{ap, sym, ◌∙◌}
use Rattle.std.proofs.lemmas.Option.{get_or_from_slice_get}
use Rattle.staat_vec.specs.Primitives.{canon}
use Rattle.staat_vec.specs.Vectors.{origin}
use Rattle.std.specs.Prelude.{not}
use Rattle.staat_vec.proofs.Primitives.{IsPrimitive-some}
use Rattle.staat_ring.specs.Belonging.{PlaneFacet}
use Rattle.staat_ring.specs.Rings.{facet_by}
use Rattle.staat_ring.proofs.PairNumbers.{both_ok, plane_facet_is}
use Rattle.staat_ring.proofs.index.push_facet.Goals as goal
use Rattle.staat_vec.proofs.Truth.{not_true_clash, from_not_false}

pub canon-n-requires-clause-some : goal.canon-n-requires-clause-some
canon-n-requires-clause-some c = IsPrimitive-some c.args.facet c.requires.facet.primitive

pub returns : goal.returns
returns c =
    let h = c.push.ensures in
    let w : PlaneFacet = record { plane = c.args.plane; turned = not c.is_same.result } in
    both_ok c.push.result _ _ _ c.push.ensures c.push.ensures (λ e _. (w, c.requires.within, ap (facet_by (not c.is_same.result)) (get_or_from_slice_get c.args.table.now.planes c.args.plane (canon c.args.facet) origin c.requires.plane ∙ sym c.canon-n.ensures.value) ∙ plane_facet_is c.args.facet c.canon-n.result (not c.is_same.result) c.canon-n.ensures.value (λ f q. not_true_clash c.is_same.result f (c.is_same.ensures.1 q)) (λ f. c.is_same.ensures.0 (from_not_false c.is_same.result f)), e))
