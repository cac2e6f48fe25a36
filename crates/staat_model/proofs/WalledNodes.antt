-- The nodes of a walled plan.
use Rattle.staat_model.specs.Certificates.{WalledPlan, nodes_of, walled_leaf, walled_split}
use Rattle.std.proofs.Common.{arith, length, ◌≤◌}

pub nodes_some : (t : WalledPlan) → 1 ≤ length (nodes_of t)
nodes_some (walled_leaf p) = omega arith
nodes_some (walled_split d seps m r) = omega arith
