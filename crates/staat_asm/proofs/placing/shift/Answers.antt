use Rattle.std.proofs.Common.{rules, refl, sym, ap, ◌∙◌, ◌<◌, arith, subst, length}
use Rattle.staat_vec.specs.declared.vector.TheConstants.{POINT}
use Rattle.staat_vec.specs.Vectors.{IsWithin, plus}
use Rattle.staat_asm.proofs.PlacingLemmas.{half_end, half_next, half_within}
use Rattle.staat_asm.proofs.placing.shift.Goals as goal

pub loop-k-init : goal.loop-k-init
loop-k-init c = record { items = refl; end = search rules }

pub moved-requires-clause-point : goal.moved-requires-clause-point
moved-requires-clause-point c =
    let below : c.loop-k.k < length c.loop-k.points.items = omega (arith, c.loop-k-test.true, c.loop-k.invariant.end) in
    subst (IsWithin POINT) (sym c.index.ensures) (half_within c.args.at c.loop-k.k c.args.points.items c.loop-k.points.items c.index.result.now c.requires.points c.loop-k.invariant.items below)

pub loop-k-preserved : goal.loop-k-preserved
loop-k-preserved c =
    let below : c.loop-k.k < length c.loop-k.points.items = omega (arith, c.loop-k-test.true, c.loop-k.invariant.end) in
    record {
      items = half_next c.args.at c.loop-k.k c.args.points.items c.loop-k.points.items c.index.result.now c.moved.result c.loop-k.invariant.items below (c.moved.ensures ∙ ap (λ p. plus p c.args.at) c.index.ensures);
      end = search rules;
    }

pub returns : goal.returns
returns c = half_end c.args.at c.loop-k.k c.args.points.items c.loop-k.points.items c.loop-k.invariant.items (omega (arith, c.loop-k-test.false, c.loop-k.invariant.end))
