use Rattle.std.proofs.Common.{◌≡◌, take}
use Rattle.staat_pairs.specs.Tables.{facets_of}
use Rattle.staat_plan.proofs.tabulated.facets_in.Given as goal

abbrev pub invariant-loop-m : goal.invariant-loop-m
invariant-loop-m l = l.facets.items ≡ take l.m (facets_of l.table l.arc)
