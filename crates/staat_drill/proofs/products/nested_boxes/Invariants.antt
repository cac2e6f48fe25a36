use Rattle.std.proofs.Common.{◌≡◌, ◌+◌, ℕ}
use Rattle.staat_drill.specs.Products.{nested_boxes}
use Rattle.staat_drill.proofs.products.nested_boxes.Given as goal

abbrev pub invariant-loop-k : goal.invariant-loop-k
invariant-loop-k l = (n : ℕ) × (l.k ≡ n + 1) × (l.parts.items ≡ nested_boxes n)
