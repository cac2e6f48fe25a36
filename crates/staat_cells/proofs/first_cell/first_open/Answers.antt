use Rattle.staat_cells.proofs.LeastCell.{first_cell, some_first}
use Rattle.staat_cells.proofs.first_cell.first_open.Goals as goal

pub unreachable-requires : goal.unreachable-requires
unreachable-requires c = some_first c.args.planes.now c.requires c.in_default.ensures

pub returns-clause-entry : goal.returns-clause-entry
returns-clause-entry c =
    first_cell c.args.planes.now c.requires c.in-Some.first c.in-Some-edge_before.second c.add.result
    c.in-Some.ensures c.in-Some-edge_before.ensures c.add.ensures.value
