use Rattle.staat_confirm.specs.Found.{MeetsTo}
use Rattle.staat_confirm.proofs.Least.{NoneBelow}
use Rattle.staat_confirm.proofs.meeting.View.first_to.Given as goal

abbrev pub invariant-loop-j : goal.invariant-loop-j
invariant-loop-j g l = NoneBelow (MeetsTo l.self.product.now l.self.along.now.d l.a l.i l.b) (λ arc. arc.j) l.j
