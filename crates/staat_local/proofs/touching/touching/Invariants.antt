use Rattle.std.proofs.Common.{false, replicate}
use Rattle.staat_local.specs.Touching.{IsToGreater, IsUpward, MarksTouching}
use Rattle.staat_local.proofs.touching.touching.Given as goal

abbrev pub invariant-loop-a : goal.invariant-loop-a
invariant-loop-a l = MarksTouching l.sound l.table (IsUpward l.a) (replicate 4096 false) l.marks

abbrev pub invariant-loop-b : goal.invariant-loop-b
invariant-loop-b l = MarksTouching l.sound l.table (IsToGreater l.a l.b) l.initial.marks l.marks
