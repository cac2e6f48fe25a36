use Rattle.std.proofs.Common.{◌+◌, ◌<◌, arith, length, ℕ}
use Rattle.std.proofs.lemmas.List.{get_or_read}
use Rattle.staat_ring.proofs.Divided.{end_within, image_at, image_more}
use Rattle.staat_ring.proofs.stop_list.with_later.Goals as goal

pub overflow_add-end : goal.overflow_add-end
overflow_add-end c =
    let half = c.args.half.items in
    let k = c.loop-k.k in
    let lt : k < length half = omega (arith, c.loop-k-test.true, c.loop-k.invariant.all) in
    let later = λ (end : ℕ). c.args.count + end in
    let at = get_or_read half k c.index.result.now lt (image_at later half c.loop-k.ends.items k c.loop-k.invariant.so_far c.index.result.now lt c.index.ensures) 0 in
    omega (arith, at, end_within 0 c.args.count k half c.requires.stops lt, c.requires.small)

pub loop-k-preserved : goal.loop-k-preserved
loop-k-preserved c =
    let half = c.args.half.items in
    let k = c.loop-k.k in
    let so_far = c.loop-k.invariant.so_far in
    let lt : k < length half = omega (arith, c.loop-k-test.true, c.loop-k.invariant.all) in
    let later = λ (end : ℕ). c.args.count + end in
    let at = image_at later half c.loop-k.ends.items k so_far c.index.result.now lt c.index.ensures in
    record {
      all = c.loop-k.invariant.all;
      so_far = image_more later half c.loop-k.ends.items k so_far c.index.result.now c.push.new.self.items lt at c.in_ok-push.ensures.items;
    }
