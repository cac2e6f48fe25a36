use Rattle.std.proofs.Common.{◌∙◌, ◌++◌}
use Rattle.staat_pairs.proofs.planes.ordered.Goals as goal

pub returns : goal.returns
returns c = record {
  others = c.in_ok-others.others.items;
  others_are = c.in_ok-others.ensures;
  is = c.in_ok-extend_from_slice.ensures.items ∙ (λ i. c.in_ok-planes.ensures i ++ c.as_slice.ensures.value i);
}
