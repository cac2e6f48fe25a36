use Rattle.std.proofs.Common.{false, replicate}
use Rattle.staat_local.proofs.TouchMarks.{all_marked, nothing_marked}
use Rattle.staat_local.proofs.touching.touching.Goals as goal

pub returns : goal.returns
returns c = all_marked c.args.sound.now c.args.table.now c.loop-a.a (replicate 4096 false) c.loop-a.marks c.set-set.ensures.rules c.loop-a-test.false nothing_marked c.loop-a.invariant
