use Rattle.std.proofs.Common.{take}
use Rattle.staat_pairs.specs.Tables.{facets_of}
use Rattle.staat_cells.specs.HalfSpaces.{AreAhead}
use Rattle.staat_cells.proofs.half_spaces.half_spaces.Given as goal

abbrev pub invariant-loop-m : goal.invariant-loop-m
invariant-loop-m l = AreAhead l.table.planes (take l.m (facets_of l.table l.arc)) l.found.items
