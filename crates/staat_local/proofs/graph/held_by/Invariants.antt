use Rattle.std.proofs.Common.{ℕ, ◌<◌}
use Rattle.staat_model.specs.Sets.{Has}
use Rattle.staat_local.specs.Beginnings.{HoldsBetween}
use Rattle.staat_local.proofs.graph.held_by.Given as goal

abbrev pub invariant-loop-b : goal.invariant-loop-b
invariant-loop-b l = record {
  found : (b : ℕ) → Has l.held b → HoldsBetween l.table l.marks l.d l.a b;
  all : (b : ℕ) → b < l.b → HoldsBetween l.table l.marks l.d l.a b → Has l.held b;
}
