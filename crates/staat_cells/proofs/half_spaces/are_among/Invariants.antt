use Rattle.std.proofs.Common.{take}
use Rattle.staat_cells.specs.HalfSpaces.{AreAmong}
use Rattle.staat_cells.proofs.half_spaces.are_among.Given as goal

abbrev pub invariant-loop-half_space : goal.invariant-loop-half_space
invariant-loop-half_space l = AreAmong (take l.half_space-index l.cone) l.other
