use Rattle.std.proofs.Common.{◌<◌, arith}
use Rattle.staat_cells.proofs.Words.{next_fits}
use Rattle.staat_cells.proofs.incidence.half.Goals as goal

pub overflow_mul-number : goal.overflow_mul-number
overflow_mul-number c =
    let lt : c.loop-s.s-index < 32 = omega arith in
    let fits = next_fits c.loop-s.number c.loop-s.s-index 0 c.loop-s.invariant.1 lt (omega arith) in
    omega (arith, fits)

pub overflow_add-number : goal.overflow_add-number
overflow_add-number c =
    let lt : c.loop-s.s-index < 32 = omega arith in
    let fits = next_fits c.loop-s.number c.loop-s.s-index c.place.result c.loop-s.invariant.1 lt c.place.ensures.small in
    omega (arith, fits)
