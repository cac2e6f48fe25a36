use Rattle.std.proofs.Common.{subst, sym, true, false}
use Rattle.staat_ring.specs.SignChanges.{with_stop_signs}
use Rattle.staat_ring.specs.Belonging.{BelongTo}
use Rattle.staat_ring.proofs.SignAll.{belong_same, stop_signs_same}
use Rattle.staat_ring.proofs.counted_signs.CountedSigns.cross.Goals as goal

pub returns-clause-made : goal.returns-clause-made
returns-clause-made c =
    let t = c.args.table.now in
    let mid = c.sign_entries-left.new.signs in
    let left = subst (BelongTo t) (sym c.sign_entries-left.ensures.signs) (belong_same t c.args.self.now (with_stop_signs true c.stop.result.now c.args.self.now) (stop_signs_same true c.stop.result.now c.args.self.now) c.requires.made) in
    subst (BelongTo t) (sym c.sign_entries-reached.ensures.signs) (belong_same t mid (with_stop_signs false c.stop-2.result.now mid) (stop_signs_same false c.stop-2.result.now mid) left)
