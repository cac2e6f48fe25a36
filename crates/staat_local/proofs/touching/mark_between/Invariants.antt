use Rattle.staat_local.specs.Touching.{IsFromPiece, LinksParts, MarksTouching}
use Rattle.staat_local.proofs.touching.mark_between.Given as goal

abbrev pub invariant-loop-i : goal.invariant-loop-i
invariant-loop-i l = MarksTouching l.sound l.table (LinksParts l.a l.b l.i) l.fn.marks l.marks

abbrev pub invariant-loop-j : goal.invariant-loop-j
invariant-loop-j l = MarksTouching l.sound l.table (IsFromPiece l.a l.i l.b l.j) l.initial.marks l.marks
