use Rattle.std.proofs.Common.{◌∙◌, ap, arith, get_or, length, subst, sym}
use Rattle.staat_vec.specs.Vectors.{origin}
use Rattle.staat_model.specs.declared.tree.Kind.TheVariants.{Point}
use Rattle.staat_cells.proofs.OppositeCells.{ArePointsAt, points_all, points_more}
use Rattle.staat_cells.proofs.points.points_at.Goals as goal

pub signs_after-requires-clause-long : goal.signs_after-requires-clause-long
signs_after-requires-clause-long c = ap length c.deref.ensures.value ∙ c.loop-k.invariant.long

pub signs_after-requires-clause-before : goal.signs_after-requires-clause-before
signs_after-requires-clause-before c =
    subst (ArePointsAt c.args.planes.now c.args.vertices.now c.loop-k.k) (sym c.deref.ensures.value) c.loop-k.invariant.are

pub loop-k-preserved : goal.loop-k-preserved
loop-k-preserved c = record {
  long = let long = c.loop-k.invariant.long in let more = c.in_ok-push.ensures.len in omega (arith, long, more);
  are = points_more c.args.planes.now c.args.vertices.now c.loop-k.k c.loop-k.cells.items c.push.new.self.items _
      c.loop-k-test.true c.loop-k.invariant.are (λ i. record {
        kind = Point;
        d = get_or c.args.vertices.now c.loop-k.k origin;
        signs = (c.from_vec.ensures ∙ c.in_ok-signs.ensures) i;
      }) c.in_ok-push.ensures.items;
}

pub returns : goal.returns
returns c = points_all c.args.planes.now c.args.vertices.now c.loop-k.k c.loop-k.cells.items c.loop-k-test.false c.loop-k.invariant.are
