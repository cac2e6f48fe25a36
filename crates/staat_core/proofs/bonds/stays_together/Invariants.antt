use Rattle.std.proofs.Common.{List, ℕ, ◌≢◌}
use Rattle.staat_vec.specs.declared.vector.V3.{V3}
use Rattle.staat_vec.specs.Vectors.{origin}
use Rattle.staat_model.specs.declared.assembly.Part.{Part}
use Rattle.staat_model.specs.Sets.{Has, IsSubset}
use Rattle.staat_core.specs.Bonds.{AreTogether}
use Rattle.staat_core.specs.Sources.{both_ways}
use Rattle.staat_core.proofs.bonds.stays_together.Given as goal

abbrev pub invariant-loop-k : goal.invariant-loop-k
invariant-loop-k g l = record {
  within : IsSubset l.joined l.w;
  left : IsSubset l.left l.joined;
  together : (parts : List Part) (d : V3) (q : ℕ) → g.S.PairSource.speaks l.source parts → d ≢ origin → Has l.joined q → AreTogether parts (both_ways (g.S.PairSource.pairs l.source)) l.w d l.root q;
}
