use Rattle.std.proofs.Common.{All, take}
use Rattle.staat_cone.specs.AxisWalls.{IsWallBetween}
use Rattle.staat_cone.proofs.apart.is_apart_along.Given as goal

abbrev pub invariant-loop-n : goal.invariant-loop-n
invariant-loop-n l = All (λ n. IsWallBetween l.p l.q n → ⊥) (take l.n-index l.normals)
