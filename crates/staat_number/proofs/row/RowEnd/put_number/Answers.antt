use Rattle.std.proofs.Common.{ap, arith, length}
use Rattle.staat_number.proofs.row.RowEnd.put_number.Goals as goal
use Rattle.staat_number.proofs.row.RowEnd.put_number.Goals.{then-z-lt0, else-z-lt0}

pub put-requires-2 : goal.put-requires-2
put-requires-2 c = elim c.if-z-lt0.branch [
  | then-z-lt0 w ↦ omega (arith, ap length w.self-is, ap length w.put.ensures, c.put_digits.ensures.size, c.requires)
  | else-z-lt0 w ↦ omega (arith, ap length w.self-is, c.put_digits.ensures.size, c.requires)
]

pub returns-clause-size : goal.returns-clause-size
returns-clause-size c = elim c.if-z-lt0.branch [
  | then-z-lt0 w ↦ omega (arith, ap length c.put-2.ensures, ap length w.self-is, ap length w.put.ensures, c.put_digits.ensures.size)
  | else-z-lt0 w ↦ omega (arith, ap length c.put-2.ensures, ap length w.self-is, c.put_digits.ensures.size)
]
