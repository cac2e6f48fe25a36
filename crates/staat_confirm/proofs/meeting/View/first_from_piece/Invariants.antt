use Rattle.staat_confirm.specs.Found.{MeetsFromPiece}
use Rattle.staat_confirm.proofs.Least.{NoneListed}
use Rattle.staat_confirm.proofs.meeting.View.first_from_piece.Given as goal

abbrev pub invariant-loop-y : goal.invariant-loop-y
invariant-loop-y g l = NoneListed (MeetsFromPiece l.self.product.now l.self.along.now.d l.a l.i l.rest) (λ arc. arc.b) l.rest l.y
