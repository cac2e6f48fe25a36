use Rattle.std.proofs.Common.{All, take}
use Rattle.staat_cells.specs.Batches.{HasPlanesUpTo}
use Rattle.staat_cells.proofs.joined_batches.last_plane.Given as goal

abbrev pub invariant-loop-test : goal.invariant-loop-test
invariant-loop-test l = All (HasPlanesUpTo l.last) (take l.test-index l.tests)
