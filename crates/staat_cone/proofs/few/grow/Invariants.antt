use Rattle.std.proofs.Common.{◌≡◌, ◌+◌, length}
use Rattle.staat_model.specs.Cones.{IsSpanning}
use Rattle.staat_cone.specs.Few.{HasDifferences, IsGrown}
use Rattle.staat_cone.proofs.few.grow.Given as goal

abbrev pub invariant-loop-round : goal.invariant-loop-round
invariant-loop-round l = record {
  grown : IsGrown l.p l.q l.few.members.items l.few.untested.items l.few.found.items;
  spanning : IsSpanning l.few.members.items;
  whole : HasDifferences l.p l.q l.initial.few.members.items → HasDifferences l.p l.q l.few.members.items × (length l.few.untested.items + l._round ≡ length l.initial.few.untested.items);
}
