use Rattle.std.proofs.Common.{◌≡◌, inr, ◌∙◌, ◌++◌, ◌∷◌, [], ap, subst, sym}
use Rattle.std.specs.Prelude.{Some, slice_get}
use Rattle.staat_vec.specs.Primitives.{IsPrimitive, canon}
use Rattle.staat_vec.proofs.ListLaws.{push_end}
use Rattle.staat_vec.proofs.Primitives.{IsPrimitive-some}
use Rattle.staat_pairs.proofs.planes.list_normal.Goals as goal

pub canon-n-requires-clause-some : goal.canon-n-requires-clause-some
canon-n-requires-clause-some c = IsPrimitive-some c.vector.result (subst IsPrimitive (sym c.vector.ensures.is) c.requires)

pub returns : goal.returns
returns c =
    let old = c.args.listed.now.items in
    let n = c.of.result in
    let is : n ≡ canon c.args.facet.now = c.of.ensures ∙ c.canon-n.ensures.value ∙ ap canon c.vector.ensures.is in
    record {
      more = inr (c.in_ok-push.ensures.items ∙ ap (λ v. old ++ v ∷ []) is);
      there = (λ i. slice_get (c.in_ok-push.ensures.items i) ((c.len-end.ensures ∙ c.args.listed.now.ok.0) i)) ∙ push_end old n ∙ ap Some is;
    }
