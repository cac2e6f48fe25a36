use Rattle.staat_confirm.specs.Found.{MeetsFrom}
use Rattle.staat_confirm.proofs.Least.{NoneBelow}
use Rattle.staat_confirm.proofs.meeting.View.first_from.Given as goal

abbrev pub invariant-loop-i : goal.invariant-loop-i
invariant-loop-i g l = NoneBelow (MeetsFrom l.self.product.now l.self.along.now.d l.a l.rest) (λ arc. arc.i) l.i
