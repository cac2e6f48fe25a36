use Rattle.std.proofs.Common.{take}
use Rattle.staat_cells.specs.HalfSpaces.{AreInside}
use Rattle.staat_cells.proofs.BatchCones.{AddsHalfSpaces}
use Rattle.staat_cells.proofs.batches.add_half_spaces.Given as goal

abbrev pub invariant-loop-half_space : goal.invariant-loop-half_space
invariant-loop-half_space l =
    AddsHalfSpaces (λ signs. AreInside signs (take l.half_space-index l.cone)) l.j l.initial.tests.items l.tests.items
