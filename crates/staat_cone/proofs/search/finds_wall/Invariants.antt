use Rattle.std.proofs.Common.{◌*◌, ◌+◌, ◌≤◌}
use Rattle.std.specs.Prelude.{unsigned_abs}
use Rattle.staat_vec.specs.Vectors.{IsWithin}
use Rattle.staat_cone.specs.declared.search.TheConstants.{STEP, WEIGHT}
use Rattle.staat_cone.proofs.search.finds_wall.Given as goal

abbrev pub invariant-loop-round : goal.invariant-loop-round
invariant-loop-round l = record {
  normal : IsWithin (STEP * (l.round + 1)) l.n;
  weight : unsigned_abs l.weight ≤ unsigned_abs WEIGHT;
}
