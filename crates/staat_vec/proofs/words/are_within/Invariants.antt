use Rattle.std.proofs.Common.{All, take}
use Rattle.staat_vec.specs.Vectors.{IsWithin}
use Rattle.staat_vec.proofs.words.are_within.Given as goal

abbrev pub invariant-loop-n : goal.invariant-loop-n
invariant-loop-n l = All (IsWithin l.bound) (take l.n-index l.normals)
