use Rattle.std.proofs.Common.{List, flat_map, take, get_or, length, ◌∙◌, ap, sym, subst, arith}
use Rattle.std.specs.List.{fold}
use Rattle.staat_explode.specs.Boxes.{around, covering, pieces_of_part}
use Rattle.staat_explode.specs.declared.boxes.Bounds.{Bounds}
use Rattle.staat_vec.specs.declared.vector.V3.{V3}
use Rattle.staat_vec.specs.Vectors.{origin}
use Rattle.staat_explode.specs.Sizes.{AreBounds}
use Rattle.staat_explode.proofs.Folds.{points_more, fold_small, part_box}
use Rattle.staat_explode.proofs.boxes.box_of.Goals as goal

pub loop-i-preserved : goal.loop-i-preserved
loop-i-preserved c =
    let value = c.covering_all-bounds.ensures ∙ ap (fold covering c.loop-i.bounds) c.points-in-loop-i.ensures.points in
    record {
      so_far = value ∙ ap (λ b. fold covering b c.piece-in-loop-i.result.now) c.loop-i.invariant.so_far
          ∙ sym (points_more c.args.assembly.now c.args.a c.loop-i.i (around (get_or c.points.result.now 0 origin)) c.piece-in-loop-i.result.now c.piece-in-loop-i.ensures);
      size = subst AreBounds (sym value) (fold_small c.loop-i.bounds c.piece-in-loop-i.result.now c.loop-i.invariant.size c.points-in-loop-i.ensures.piece.within);
    }

pub returns-clause-value : goal.returns-clause-value
returns-clause-value c =
    let parts = c.args.assembly.now in
    let first = ap (λ (ps : List V3). around (get_or ps 0 origin)) c.points.ensures.points in
    c.loop-i.invariant.so_far
    ∙ ap (λ (b : Bounds). fold covering b (flat_map (λ q. q) (take c.loop-i.i (pieces_of_part parts c.args.a)))) first
    ∙ part_box parts c.args.a c.loop-i.i c.piece.result.now origin c.piece.ensures (omega (arith, c.points.ensures.piece.at_least, ap length c.points.ensures.points)) (omega (arith, c.pieces-i-end.ensures.count))
