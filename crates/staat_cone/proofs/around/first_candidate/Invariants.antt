use Rattle.std.proofs.Common.{All, take}
use Rattle.staat_cone.specs.Scans.{IsApart}
use Rattle.staat_cone.proofs.around.first_candidate.Given as goal

abbrev pub invariant-loop-x : goal.invariant-loop-x
invariant-loop-x l = All (λ x. IsApart l.v x → ⊥) (take l.x-index l.vs)
