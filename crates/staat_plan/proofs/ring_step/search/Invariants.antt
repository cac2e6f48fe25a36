use Rattle.std.proofs.Common.{◌≡◌, ◌+◌, ◌-◌, ◌^◌, min, List, Contains, length}
use Rattle.std.specs.Prelude.{Some}
use Rattle.staat_model.specs.declared.assembly.Part.{Part}
use Rattle.staat_pairs.specs.Tables.{WasMadeFrom}
use Rattle.staat_ring.specs.{Rings.Ring, Walked.{IsEntered, WalkWasMadeFrom}}
use Rattle.staat_plan.specs.{RingSearches.{IsBest, IsLater, length_at}, declared.ring_step.Serving.Serving}
use Rattle.staat_plan.proofs.ring_step.search.Given as goal

abbrev pub invariant-stops : goal.invariant-stops
invariant-stops g l = record {
  made : WalkWasMadeFrom l.table l.walk;
  entered : IsEntered l.table.planes l.rings.rings l.walk;
  circle : l.walk.circle ≡ l.i;
  placed : (h : Serving) → l.best ≡ Some h → IsLater l.i (length l.table.planes) h;
  crossed : l.walk.crossed ≡ min (l.fn.walk.crossed + l.walk.place) (2 ^ 64 - 1);
  best : (parts : List Part) → WasMadeFrom parts l.table → (r : Ring) → Contains l.rings.rings r → r.plane ≡ l.i → IsBest parts l.table.planes l.w l.i r.stops l.walk.place l.best;
}

abbrev pub decreases-stops : goal.decreases-stops
decreases-stops g l = length_at l.i l.rings.rings - l.walk.place
