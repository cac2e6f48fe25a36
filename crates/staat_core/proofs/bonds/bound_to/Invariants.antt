use Rattle.std.proofs.Common.{List, ℕ, ◌≢◌}
use Rattle.staat_vec.specs.declared.vector.V3.{V3}
use Rattle.staat_vec.specs.Vectors.{origin}
use Rattle.staat_model.specs.declared.assembly.Part.{Part}
use Rattle.staat_model.specs.declared.set.PartSet.{PartSet}
use Rattle.staat_model.specs.Sets.{Has, IsSubset}
use Rattle.staat_core.specs.Bonds.{AreTogether}
use Rattle.staat_core.specs.Sources.{both_ways}
use Rattle.staat_core.proofs.bonds.bound_to.Given as goal

abbrev pub invariant-loop-q : goal.invariant-loop-q
invariant-loop-q g l = record {
  within : IsSubset l.bound l.among;
  bound : (parts : List Part) (w : PartSet) (d : V3) (q : ℕ) → g.S.PairSource.speaks l.source parts → d ≢ origin → Has w l.p → Has w q → Has l.bound q → AreTogether parts (both_ways (g.S.PairSource.pairs l.source)) w d l.p q;
}
