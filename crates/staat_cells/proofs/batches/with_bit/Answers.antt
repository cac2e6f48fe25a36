use Rattle.std.specs.Int.{w128}
use Rattle.staat_cells.proofs.BatchCones.{set_bit}
use Rattle.staat_cells.proofs.batches.with_bit.Goals as goal

pub returns-clause-cones : goal.returns-clause-cones
returns-clause-cones c = λ k. set_bit w128 c.args.arc.cones c.args.j k c.requires
