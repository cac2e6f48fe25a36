use Rattle.std.proofs.Common.{◌≡◌}
use Rattle.staat_drill.specs.Products.{row_of_cubes}
use Rattle.staat_drill.proofs.products.row_of_cubes.Given as goal

abbrev pub invariant-loop-k : goal.invariant-loop-k
invariant-loop-k l = l.parts.items ≡ row_of_cubes l.k
