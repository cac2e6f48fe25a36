use Rattle.std.proofs.Common.{arith}
use Rattle.staat_decide.proofs.EndSteps.{piece_more, stays}
use Rattle.staat_decide.proofs.every.add_ends.Goals as goal

pub loop-piece-preserved : goal.loop-piece-preserved
loop-piece-preserved c =
    let i = c.loop-piece.invariant in record {
      kept = λ e h. stays c.loop-piece.ends.items c.push.new.self.items (record { part = c.args.part; piece = c.loop-piece.piece }) e c.in_ok-push.ensures.items (i.kept e h);
      each = piece_more c.loop-piece.ends.items c.push.new.self.items c.args.part c.loop-piece.piece c.in_ok-push.ensures.items i.each;
    }

pub returns : goal.returns
returns c = record {
  kept = c.loop-piece.invariant.kept;
  each = λ i lt. c.loop-piece.invariant.each i (omega (arith, lt, c.loop-piece-test.false));
}
