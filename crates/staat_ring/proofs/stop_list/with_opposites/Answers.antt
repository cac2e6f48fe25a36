use Rattle.std.proofs.Common.{◌<◌, arith, length}
use Rattle.staat_ring.specs.Builds.{opposite}
use Rattle.staat_ring.proofs.Divided.{image_at, image_more}
use Rattle.staat_ring.proofs.stop_list.with_opposites.Goals as goal

pub loop-i-preserved : goal.loop-i-preserved
loop-i-preserved c =
    let half = c.args.half.items in
    let entries = c.loop-i.entries.items in
    let i = c.loop-i.i in
    let e = c.index-e.result.now in
    let so_far = c.loop-i.invariant.so_far in
    let lt : i < length half = omega (arith, c.loop-i-test.true, c.loop-i.invariant.all) in
    let at = image_at opposite half entries i so_far e lt c.index-e.ensures in
    record {
      all = c.loop-i.invariant.all;
      so_far = image_more opposite half entries i so_far e c.push.new.self.items lt at c.in_ok-push.ensures.items;
    }
