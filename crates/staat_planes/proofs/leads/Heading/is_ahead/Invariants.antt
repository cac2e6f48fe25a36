use Rattle.std.proofs.Common.{All, take, pos, ◌<ℤ◌}
use Rattle.staat_vec.specs.Vectors.{dot}
use Rattle.staat_planes.proofs.leads.Heading.is_ahead.Given as goal

abbrev pub invariant-loop-n : goal.invariant-loop-n
invariant-loop-n l = All (λ n. pos 0 <ℤ dot n l.fn.self.d) (take l.n-index l.facets)
