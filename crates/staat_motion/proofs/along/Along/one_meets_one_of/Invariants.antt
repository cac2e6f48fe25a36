use Rattle.std.proofs.Common.{◌≡◌, ℕ, ◌<◌, List, Any, get_or}
use Rattle.staat_vec.specs.declared.vector.V3.{V3}
use Rattle.staat_model.specs.Meeting.{Meets}
use Rattle.staat_motion.proofs.along.Along.one_meets_one_of.Given as goal

abbrev pub invariant-loop-i : goal.invariant-loop-i
invariant-loop-i g l = (k : ℕ) (p : List V3) → k < l.i → get_or l.ps k p ≡ p → Any (λ q. Meets p q l.self.d) l.others.pieces.now → ⊥
