use Rattle.std.proofs.Common.{◌≡◌, [], false, get_or, map, take}
use Rattle.staat_decide.proofs.likely.picked_rows.Given as goal

abbrev pub invariant-loop-a : goal.invariant-loop-a
invariant-loop-a l = l.picked.items ≡ map (λ a. map (λ b. get_or (get_or l.rows a []) b false) l.w) (take l.a-index l.w)
