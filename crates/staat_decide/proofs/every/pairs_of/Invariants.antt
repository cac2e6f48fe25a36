use Rattle.std.proofs.Common.{ℕ, ◌<◌, All, Contains, get_or}
use Rattle.staat_holds.specs.Holds.{IsCorePair}
use Rattle.staat_decide.specs.declared.every.End.{End}
use Rattle.staat_decide.specs.Ends.{arc_between}
use Rattle.staat_decide.proofs.every.pairs_of.Given as goal

abbrev pub invariant-loop-end : goal.invariant-loop-end
invariant-loop-end l = record {
  right : All (IsCorePair l.parts l.nodes l.count) l.pairs.items;
  each : (k : ℕ) → k < l.end-index → (d q : End) → Contains l.ends q
      → IsCorePair l.parts l.nodes l.count (arc_between (get_or l.ends k d) q)
      → Contains l.pairs.items (arc_between (get_or l.ends k d) q);
}
