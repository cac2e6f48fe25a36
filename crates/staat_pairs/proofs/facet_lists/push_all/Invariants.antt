use Rattle.std.proofs.Common.{◌≡◌, ◌++◌, take}
use Rattle.staat_pairs.proofs.facet_lists.push_all.Given as goal

abbrev pub invariant-loop-n : goal.invariant-loop-n
invariant-loop-n l = l.facets.items ≡ l.initial.facets.items ++ take l.n-index l.list
