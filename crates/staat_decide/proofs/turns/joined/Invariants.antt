use Rattle.std.proofs.Common.{List, [], ◌∷◌, ◌++◌, map, ◌≡◌, vec_len}
use Rattle.staat_model.specs.Plans.{Plan, plan_of}
use Rattle.staat_model.specs.Leaving.{in_turn}
use Rattle.staat_decide.proofs.InTurn.{IsInTurn}
use Rattle.staat_decide.proofs.turns.joined.Given as goal

abbrev pub invariant-loop-moved : goal.invariant-loop-moved
invariant-loop-moved l = (plan : Plan) (plans : List Plan) → map plan_of l.fn.trees.items ≡ plan ∷ plans
    → IsInTurn l.d (map plan_of l.ahead.items ++ plan_of l.tree ∷ []) (in_turn l.d plan plans)

abbrev pub decreases-loop-moved : goal.decreases-loop-moved
decreases-loop-moved l = vec_len l.ahead
