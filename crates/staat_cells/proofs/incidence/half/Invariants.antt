use Rattle.std.proofs.Common.{◌≡◌, ◌<◌, ◌^◌, drop}
use Rattle.staat_cells.specs.Packing.{packed, packed_after}
use Rattle.staat_cells.proofs.incidence.half.Given as goal

-- what is left of the signs gives the number, which is not too great
abbrev pub invariant-loop-s : goal.invariant-loop-s
invariant-loop-s l = (packed_after l.number (drop l.s-index l.signs) ≡ packed l.signs) × (l.number < 4 ^ l.s-index)
