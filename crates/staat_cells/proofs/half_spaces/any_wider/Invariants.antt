use Rattle.std.proofs.Common.{All, take}
use Rattle.staat_cells.specs.HalfSpaces.{AreAmong}
use Rattle.staat_cells.proofs.half_spaces.any_wider.Given as goal

abbrev pub invariant-loop-wider : goal.invariant-loop-wider
invariant-loop-wider l = All (λ wider. AreAmong wider l.cone → ⊥) (take l.wider-index l.cones)
