use Rattle.std.proofs.Common.{◌≡◌, ◌↔◌, ℕ}
use Rattle.staat_cells.specs.Batches.{IsLeft, outside_at}
use Rattle.staat_cells.proofs.BatchCones.{each_side}
use Rattle.staat_cells.proofs.batches.with_cone.Goals as goal

pub returns-clause-left : goal.returns-clause-left
returns-clause-left c = each_side
    (λ t word. (k : ℕ) → IsLeft word k ↔ (IsLeft (outside_at c.args.test t) k × (k ≡ c.args.j → t ≡ c.args.s)))
    c.with_outside.result c.with_outside-2.result c.with_outside-3.result
    c.with_outside.ensures c.with_outside-2.ensures c.with_outside-3.ensures
