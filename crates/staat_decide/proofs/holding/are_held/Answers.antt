use Rattle.std.proofs.Common.{refl, sym}
use Rattle.staat_decide.proofs.Holdings.{hold_told}
use Rattle.staat_decide.proofs.holding.are_held.Goals as goal

pub returns : goal.returns
returns g c held =
    let hold = c.args.hold.now in
    let w = c.as_slice-w.result.now in
    let pairs = c.as_slice-pairs.result.now in
    let is = c.if-not-is_part_set.false in
    hold_told c.args.parts.now w hold.nodes pairs hold.pairs c.in_ok-places.places.items c.as_slice.result.now c.as_slice-2.result.now pairs pairs
    c.requires.parts (c.is_part_set.ensures.below is) (c.is_part_set.ensures.ascending is) (c.is_part_set.ensures.two is) c.in_ok-places.ensures
    c.as_slice.ensures.value c.as_slice-2.ensures.value refl refl
    (c.are_core_pairs.ensures.0 c.if-not-are_core_pairs.false) (c.in_ok-is_held.ensures.held.0 held) (sym c.as_slice-w.ensures) (sym c.as_slice-pairs.ensures)
