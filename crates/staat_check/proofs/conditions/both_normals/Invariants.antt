use Rattle.std.proofs.Common.{◌≡◌, ◌++◌, map, take}
use Rattle.staat_vec.specs.Vectors.{negative}
use Rattle.staat_check.proofs.conditions.both_normals.Given as goal

abbrev pub invariant-loop-n : goal.invariant-loop-n
invariant-loop-n l = l.normals.items ≡ l.initial.normals.items ++ map negative (take l.n-index l.planes)
