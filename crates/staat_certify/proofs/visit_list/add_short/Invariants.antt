use Rattle.std.proofs.Common.{◌≡◌, ◌++◌, take}
use Rattle.staat_certify.proofs.visit_list.add_short.Given as goal

abbrev pub invariant-loop-visit : goal.invariant-loop-visit
invariant-loop-visit l = l.great.items ≡ l.fn.great.items ++ take l.visit-index l.short
