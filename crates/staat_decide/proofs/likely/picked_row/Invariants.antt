use Rattle.std.proofs.Common.{◌≡◌, false, get_or, map, take}
use Rattle.staat_decide.proofs.likely.picked_row.Given as goal

abbrev pub invariant-loop-b : goal.invariant-loop-b
invariant-loop-b l = l.picked.items ≡ map (λ b. get_or l.row b false) (take l.b-index l.w)
