use Rattle.std.proofs.Common.{◌↔◌, ℕ, take}
use Rattle.staat_cells.specs.Batches.{IsLeft, IsLeftByAll, joined_outside}
use Rattle.staat_cells.proofs.joined_batches.ruled_out.Given as goal

abbrev pub invariant-loop-test : goal.invariant-loop-test
invariant-loop-test l = (j : ℕ) → IsLeft l.found j ↔ IsLeftByAll (joined_outside l.signs) (take l.test-index l.tests) j
