use Rattle.std.proofs.Common.{take}
use Rattle.staat_model.specs.Cones.{IsAbove}
use Rattle.staat_cone.proofs.walls.is_above.Given as goal

abbrev pub invariant-loop-v : goal.invariant-loop-v
invariant-loop-v l = IsAbove l.n (take l.v-index l.vs)
