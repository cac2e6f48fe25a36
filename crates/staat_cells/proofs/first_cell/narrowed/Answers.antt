use Rattle.std.proofs.Common.{◌*◌, ◌<◌, ◌^◌, arith, refl}
use Rattle.staat_vec.specs.declared.vector.TheConstants.{DIRECTION, NORMAL}
use Rattle.staat_vec.proofs.Order.{positive_nonneg}
use Rattle.staat_cells.proofs.LeastCell.{above_zero, below_zero, from_zero, to_zero, both_kept, first_cut, none_left}
use Rattle.staat_cells.proofs.LeastCell.{over, second_cut}
use Rattle.staat_cells.proofs.first_cell.narrowed.Goals as goal

-- the size of a product
small : 3 * (NORMAL * DIRECTION) < 2 ^ 127
small = omega arith

pub returns-then-second-ge0 : goal.returns-then-second-ge0
returns-then-second-ge0 c planes passed h_in are =
    let up = above_zero _ _ _ c.dot-first.ensures.value c.dot-first.ensures.size small c.if-first-gt0.true in
    let also = from_zero _ _ _ c.dot-second.ensures.value c.dot-second.ensures.size small c.if-second-ge0.true in
    none_left planes passed c.args.g c.args.h c.args.ends are h_in (positive_nonneg _ up) also (λ k l. over _ _ up k refl)

pub returns-then-first-gt0 : goal.returns-then-first-gt0
returns-then-first-gt0 c planes passed h_in are =
    let up = above_zero _ _ _ c.dot-first.ensures.value c.dot-first.ensures.size small c.if-first-gt0.true in
    let low = below_zero _ _ _ c.dot-second.ensures.value c.dot-second.ensures.size small c.if-second-ge0.false in
    first_cut planes passed c.args.g c.args.h c.args.ends are c.cross_normal-first.result h_in
    c.cross_normal-first.ensures.value c.cross_normal-first.ensures.size (positive_nonneg _ up) low

pub returns-then-first-ge0 : goal.returns-then-first-ge0
returns-then-first-ge0 c planes passed h_in are =
    let up = above_zero _ _ _ c.dot-second.ensures.value c.dot-second.ensures.size small c.if-second-gt0.true in
    let also = from_zero _ _ _ c.dot-first.ensures.value c.dot-first.ensures.size small c.if-first-ge0.true in
    none_left planes passed c.args.g c.args.h c.args.ends are h_in also (positive_nonneg _ up) (λ k l. over _ _ up l refl)

pub returns-then-second-gt0 : goal.returns-then-second-gt0
returns-then-second-gt0 c planes passed h_in are =
    let up = above_zero _ _ _ c.dot-second.ensures.value c.dot-second.ensures.size small c.if-second-gt0.true in
    let low = below_zero _ _ _ c.dot-first.ensures.value c.dot-first.ensures.size small c.if-first-ge0.false in
    second_cut planes passed c.args.g c.args.h c.args.ends are c.cross_normal-second.result h_in
    c.cross_normal-second.ensures.value c.cross_normal-second.ensures.size low (positive_nonneg _ up)

pub returns : goal.returns
returns c planes passed h_in are =
    let under = to_zero _ _ _ c.dot-first.ensures.value c.dot-first.ensures.size small c.if-first-gt0.false in
    let also = to_zero _ _ _ c.dot-second.ensures.value c.dot-second.ensures.size small c.if-second-gt0.false in
    both_kept planes passed c.args.g c.args.h c.args.ends are under also
