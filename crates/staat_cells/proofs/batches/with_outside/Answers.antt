use Rattle.std.proofs.Common.{◌≡◌, rules}
use Rattle.staat_cells.proofs.BatchCones.{clear_bit}
use Rattle.staat_cells.proofs.batches.with_outside.Goals as goal

pub returns-else-eq : goal.returns-else-eq
returns-else-eq c = λ k. clear_bit c.args.word c.args.j k (c.args.t ≡ c.args.s) c.requires (search rules)
