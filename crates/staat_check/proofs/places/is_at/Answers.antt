use Rattle.staat_check.proofs.PlacedLines.{line_at}
use Rattle.staat_check.proofs.places.is_at.Goals as goal

pub returns-then-k-dirs : goal.returns-then-k-dirs
returns-then-k-dirs c = λ yes. line_at c.args.dirs.now c.args.number _ c.args.v c.if-k-dirs.true (c.is_same.ensures.0 yes)
