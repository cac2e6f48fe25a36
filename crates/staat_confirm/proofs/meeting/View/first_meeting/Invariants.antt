use Rattle.staat_confirm.specs.Found.{MeetsBetween}
use Rattle.staat_confirm.proofs.Least.{NoneListed}
use Rattle.staat_confirm.proofs.meeting.View.first_meeting.Given as goal

abbrev pub invariant-loop-x : goal.invariant-loop-x
invariant-loop-x g l = NoneListed (MeetsBetween l.self.product.now l.self.along.now.d l.moved l.rest) (λ arc. arc.a) l.moved l.x
