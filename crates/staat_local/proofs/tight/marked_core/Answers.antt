use Rattle.std.proofs.Common.{subst, sym, All}
use Rattle.staat_core.specs.declared.listed.PairList.{PairList}
use Rattle.staat_core.specs.Listed.{HasListRoom, IsTablePair, pairs_in_use}
use Rattle.staat_core.proofs.Listing.{all_put}
use Rattle.staat_local.specs.Tightness.{IsMarkedPair}
use Rattle.staat_local.specs.Touching.{IsPairMarked}
use Rattle.staat_local.proofs.tight.marked_core.Goals as goal
use Rattle.staat_local.proofs.tight.marked_core.Goals.{then-marks-slot, else-marks-slot}

pub loop-pair-preserved : goal.loop-pair-preserved
loop-pair-preserved c =
    let P = IsMarkedPair c.args.table.now c.args.marks.now in
    let pair_is = subst (All (IsTablePair c.args.table.now)) (sym c.pairs-pair-items.ensures) c.of-all.ensures.pairs c.loop-pair.pair-index _ c.loop-pair-test.true in
    let old = c.loop-pair.invariant in
    elim c.if-marks-slot.branch [
      | then-marks-slot w ↦ subst (λ (l : PairList). HasListRoom l × All P (pairs_in_use l)) (sym w.marked-is)
          (w.put.ensures.room, all_put P (pairs_in_use c.loop-pair.marked) (pairs_in_use w.put.new.self) _ old.1 (record { pair_is = pair_is; marked = subst (IsPairMarked c.args.marks.now) c.slot.ensures.is w.if-marks-slot.true }) w.put.ensures.pairs)
      | else-marks-slot w ↦ subst (λ (l : PairList). HasListRoom l × All P (pairs_in_use l)) (sym w.marked-is) (old.0, old.1)
    ]
