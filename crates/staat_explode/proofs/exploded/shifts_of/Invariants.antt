use Rattle.std.proofs.Common.{◌≡◌, map}
use Rattle.std.specs.List.{range_with_len}
use Rattle.staat_explode.specs.Shifts.{vector_of_part}
use Rattle.staat_explode.proofs.exploded.shifts_of.Given as goal

abbrev pub invariant-loop-part : goal.invariant-loop-part
invariant-loop-part l = l.shifts.items ≡ map (vector_of_part l.placed) (range_with_len 0 l.part)
