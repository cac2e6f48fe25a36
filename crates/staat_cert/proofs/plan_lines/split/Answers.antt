use Rattle.std.proofs.Common.{arith}
use Rattle.staat_cert.proofs.plan_lines.split.Goals as goal

pub invariant_of-stage : goal.invariant_of-stage
invariant_of-stage c = record { small = omega (arith, c.has_room.ensures.small c.if-not-has_room.false) }
