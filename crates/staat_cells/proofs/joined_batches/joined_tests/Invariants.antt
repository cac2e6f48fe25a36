use Rattle.std.proofs.Common.{◌↔◌, ◌*◌, ℕ, List, take}
use Rattle.staat_vec.specs.declared.vector.Sign.{Sign}
use Rattle.staat_cells.specs.Batches.{IsLeftByAll, joined_outside, outside_by}
use Rattle.staat_cells.proofs.joined_batches.joined_tests.Given as goal

abbrev pub invariant-loop-i : goal.invariant-loop-i
invariant-loop-i l =
    (signs : List Sign) (j : ℕ) → IsLeftByAll (joined_outside signs) l.found.items j ↔ IsLeftByAll (outside_by signs) (take (3 * l.i) l.tests) j
