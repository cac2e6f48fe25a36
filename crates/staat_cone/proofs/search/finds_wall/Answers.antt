use Rattle.std.proofs.Common.{◌*◌, ◌+◌, arith}
use Rattle.std.proofs.lemmas.Int.{ints}
use Rattle.staat_vec.proofs.Bounds.{IsWithin-wider}
use Rattle.staat_cone.specs.declared.search.TheConstants.{STEP}
use Rattle.staat_cone.proofs.search.finds_wall.Goals as goal

pub loop-round-preserved : goal.loop-round-preserved
loop-round-preserved c =
    let r = c.loop-round.round in record {
      normal = IsWithin-wider (STEP * (r + 1) + STEP) (STEP * (r + 1 + 1)) c.corrected-n.result (omega arith) (c.corrected-n.ensures (STEP * (r + 1)) c.loop-round.invariant.normal);
      weight = omega (arith, ints);
    }
