use Rattle.std.proofs.Common.{take}
use Rattle.staat_pairs.specs.Tables.{facets_of}
use Rattle.staat_check.specs.Conditions.{AddsNumbers, both_sides, turned_all}
use Rattle.staat_check.proofs.conditions.push_facets.Given as goal

abbrev pub invariant-loop-m : goal.invariant-loop-m
invariant-loop-m l = AddsNumbers (both_sides l.table.planes) (take l.m (turned_all l.turned (facets_of l.table l.arc))) l.initial.numbers.items l.numbers.items
