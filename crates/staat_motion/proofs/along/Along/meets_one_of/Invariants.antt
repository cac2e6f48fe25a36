use Rattle.std.proofs.Common.{◌≡◌, ℕ, ◌<◌, List, get_or}
use Rattle.staat_vec.specs.declared.vector.V3.{V3}
use Rattle.staat_model.specs.Meeting.{Meets}
use Rattle.staat_motion.proofs.along.Along.meets_one_of.Given as goal

abbrev pub invariant-loop-j : goal.invariant-loop-j
invariant-loop-j g l = (k : ℕ) (q : List V3) → k < l.j → get_or l.qs k q ≡ q → Meets l.p q l.self.d → ⊥
