use Rattle.std.proofs.Common.{◌+◌, ◌∙◌, ap, sym, arith, length}
use Rattle.staat_text.proofs.PartLines.{points_more}
use Rattle.staat_text.proofs.parts.point_count.Goals as goal

pub loop-i-preserved : goal.loop-i-preserved
loop-i-preserved c =
    let more = points_more c.args.assembly.now c.args.a c.loop-i.i c.piece.result.now c.piece.ensures in
    record {
      so_far = ap (λ n. c.loop-i.count + length n) c.points.ensures.points ∙ ap (λ n. n + length c.piece.result.now) c.loop-i.invariant.so_far ∙ sym more;
      small = omega (arith, c.loop-i.invariant.small, ap length c.points.ensures.points, c.points.ensures.piece.at_most);
    }
