use Rattle.std.proofs.Common.{◌<ℤ◌, All, pos, take}
use Rattle.staat_vec.specs.Vectors.{dot}
use Rattle.staat_cone.proofs.walls.leads_ahead.Given as goal

abbrev pub invariant-loop-n : goal.invariant-loop-n
invariant-loop-n l = All (λ n. pos 0 <ℤ dot n l.fn.d) (take l.n-index l.facets)
