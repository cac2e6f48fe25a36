use Rattle.std.proofs.Common.{ℕ, ◌<◌, All, Contains, get_or}
use Rattle.staat_model.specs.declared.certificate.Arc.{Arc}
use Rattle.staat_holds.specs.Holds.{IsCorePair}
use Rattle.staat_decide.specs.declared.every.End.{End}
use Rattle.staat_decide.specs.Ends.{arc_between}
use Rattle.staat_decide.proofs.every.add_pairs.Given as goal

abbrev pub invariant-loop-end : goal.invariant-loop-end
invariant-loop-end l = record {
  right : All (IsCorePair l.parts l.nodes l.count) l.pairs.items;
  kept : (pair : Arc) → Contains l.initial.pairs.items pair → Contains l.pairs.items pair;
  each : (k : ℕ) → k < l.end-index → (d : End) → IsCorePair l.parts l.nodes l.count (arc_between l.first (get_or l.ends k d))
      → Contains l.pairs.items (arc_between l.first (get_or l.ends k d));
}
