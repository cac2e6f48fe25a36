use Rattle.staat_cells.proofs.Composing.{compose_end}
use Rattle.staat_cells.proofs.compose.composed_signs.Goals as goal

pub returns : goal.returns
returns c =
    compose_end c.args.first.now c.args.second.now c.loop-i.signs.items c.loop-i.i c.requires c.loop-i-test.false
    c.loop-i.invariant
