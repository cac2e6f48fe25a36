use Rattle.std.proofs.Common.{◌∷◌, [], Contains, arith, subst, sym, ◌∙◌}
use Rattle.std.proofs.lemmas.Bool.{false≢true}
use Rattle.std.proofs.lemmas.List.Elements.{All-push, Contains-append_left}
use Rattle.staat_holds.specs.Holds.{IsCorePair}
use Rattle.staat_decide.specs.declared.every.End.{End}
use Rattle.staat_decide.specs.Ends.{arc_between}
use Rattle.staat_decide.proofs.EndSteps.{pair_comes, pair_passed}
use Rattle.staat_decide.proofs.every.add_pairs.Goals.{then-is_core_pair+in_ok-push, else-is_core_pair}
use Rattle.staat_decide.proofs.every.add_pairs.Goals as goal

pub loop-end-preserved : goal.loop-end-preserved
loop-end-preserved c =
    let P = IsCorePair c.args.parts.now c.args.nodes.now c.args.count in
    let xs = c.loop-end.pairs.items in
    let x = c.between-pair.result in
    let i = c.loop-end.invariant in
    elim c.if-is_core_pair.branch [
      | then-is_core_pair+in_ok-push w ↦ rw w.pairs-is (rw w.in_ok-push.ensures.items (record {
        right = All-push P xs x i.right (c.is_core_pair.ensures.0 w.if-is_core_pair.true);
        kept = λ pair h. Contains-append_left xs (x ∷ []) pair (i.kept pair h);
        each = pair_comes P c.args.first c.args.ends.now xs c.loop-end.end-index _ x c.loop-end-test.true c.between-pair.ensures i.each;
      }))
      | else-is_core_pair w ↦ rw w.pairs-is (record {
        right = i.right;
        kept = i.kept;
        each = pair_passed P c.args.first c.args.ends.now xs c.loop-end.end-index _ x c.loop-end-test.true c.between-pair.ensures i.each
            (λ core. false≢true (sym w.if-is_core_pair.false ∙ c.is_core_pair.ensures.1 core));
      })
    ]

pub returns : goal.returns
returns c =
    let P = IsCorePair c.args.parts.now c.args.nodes.now c.args.count in
    let xs = c.loop-end.pairs.items in
    let i = c.loop-end.invariant in
    record {
      right = i.right;
      kept = i.kept;
      each = λ e listed core.
          let (k, lt, is) = listed in
          subst (λ (x : End). Contains xs (arc_between c.args.first x)) is
          (i.each k (omega (arith, lt, c.loop-end-test.false)) e (subst (λ (x : End). P (arc_between c.args.first x)) (sym is) core));
    }
