use Rattle.std.proofs.Common.{drop, length}
use Rattle.staat_model.specs.Cells.{signs_of}
use Rattle.staat_cells.specs.Compositions.{composed}
use Rattle.staat_cells.proofs.ZeroPlaces.{IsPatched}
use Rattle.staat_cells.proofs.zero_signs.incidence_towards.Given as goal

-- the signs are changed up to some place, and the zeros from there on are left
abbrev pub invariant-loop-i : goal.invariant-loop-i
invariant-loop-i l =
    IsPatched (length l.signs) (composed l.signs (signs_of l.planes l.w)) (signs_of l.planes l.w) l.incidence l.fn.base.of (drop l.i l.zeros)
