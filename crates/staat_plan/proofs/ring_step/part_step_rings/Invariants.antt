use Rattle.std.proofs.Common.{◌≡◌, ◌+◌, ◌*◌, ◌-◌, ◌≤◌, ◌^◌, min, List, length}
use Rattle.staat_model.specs.declared.assembly.Part.{Part}
use Rattle.staat_pairs.specs.Tables.{WasMadeFrom}
use Rattle.staat_ring.specs.{Rings.linked_of, Stepping.count_below, Walked.WalkWasMadeFrom}
use Rattle.staat_plan.specs.RingSearches.{NoneServes, lengths_below}
use Rattle.staat_plan.proofs.ring_step.part_step_rings.Given as goal

abbrev pub invariant-loop-i : goal.invariant-loop-i
invariant-loop-i g l = record {
  all : l.i-end ≡ length l.table.planes;
  made : WalkWasMadeFrom l.table l.walk;
  none : (parts : List Part) → WasMadeFrom parts l.table → NoneServes parts l.table.planes l.w (linked_of l.rings.rings) l.i;
  steps : l.steps ≤ l.initial.steps + count_below l.i (linked_of l.rings.rings) * length l.rings.rings;
  crossed : min (l.fn.walk.crossed + lengths_below l.i l.rings.rings) (2 ^ 64 - 1) ≤ l.walk.crossed;
}
