use Rattle.std.proofs.Common.{◌≡◌, drop}
use Rattle.staat_explode.specs.Shifts.{vector_of_part}
use Rattle.staat_explode.proofs.shifted.vector_of_part.Given as goal

abbrev pub invariant-loop-p : goal.invariant-loop-p
invariant-loop-p l = vector_of_part (drop l.p-index l.placed) l.part ≡ vector_of_part l.placed l.part
