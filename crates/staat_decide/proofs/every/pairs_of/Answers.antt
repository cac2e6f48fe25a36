use Rattle.std.proofs.Common.{All, Contains, arith, subst, sym}
use Rattle.std.proofs.lemmas.List.Elements.{All-nil}
use Rattle.staat_holds.specs.Holds.{IsCorePair}
use Rattle.staat_decide.specs.declared.every.End.{End}
use Rattle.staat_decide.specs.Ends.{arc_between}
use Rattle.staat_decide.proofs.EndSteps.{pairs_more}
use Rattle.staat_decide.proofs.every.pairs_of.Goals as goal

pub loop-end-preserved : goal.loop-end-preserved
loop-end-preserved c = record {
  right = c.in_ok-add_pairs.ensures.right;
  each = pairs_more (IsCorePair c.args.parts.now c.args.nodes.now c.args.count) c.args.ends.now c.loop-end.pairs.items c.add_pairs.new.pairs.items c.loop-end.end-index _
      c.loop-end-test.true c.in_ok-add_pairs.ensures.kept c.in_ok-add_pairs.ensures.each c.loop-end.invariant.each;
}

pub loop-end-init : goal.loop-end-init
loop-end-init c =
    let P = IsCorePair c.args.parts.now c.args.nodes.now c.args.count in
    record { right = subst (All P) (sym c.new-pairs.ensures.items) (All-nil P); each = λ k lt. absurd (omega arith) }

pub returns : goal.returns
returns c =
    let P = IsCorePair c.args.parts.now c.args.nodes.now c.args.count in
    let i = c.loop-end.invariant in
    record {
      right = i.right;
      each = λ p q p_in q_in core.
          let (k, lt, is) = p_in in
          subst (λ (x : End). Contains c.loop-end.pairs.items (arc_between x q)) is
          (i.each k (omega (arith, lt, c.loop-end-test.false)) p q q_in (subst (λ (x : End). P (arc_between x q)) (sym is) core));
    }
