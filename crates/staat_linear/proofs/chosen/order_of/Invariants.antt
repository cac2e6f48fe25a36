use Rattle.std.proofs.Common.{List}
use Rattle.std.specs.FinSet as set
use Rattle.staat_model.specs.declared.assembly.Part.{Part}
use Rattle.staat_model.specs.Sets.{IsNonempty, IsSubset}
use Rattle.staat_pairs.specs.Tables.{WasMadeFrom}
use Rattle.staat_linear.proofs.Choosing.{ComesDown}
use Rattle.staat_linear.proofs.chosen.order_of.Given as goal

abbrev pub invariant-loop-leave : goal.invariant-loop-leave
invariant-loop-leave l = record {
  some : IsNonempty l.left;
  within : IsSubset l.left l.table.of;
  down : (parts : List Part) → WasMadeFrom parts l.table → ComesDown parts l.fn.w l.leaves.items l.left;
}

abbrev pub decreases-loop-leave : goal.decreases-loop-leave
decreases-loop-leave l = set.len l.left
