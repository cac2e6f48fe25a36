use Rattle.std.proofs.Common.{◌≡◌, ◌↔◌, ℕ, ◌<◌, List, sym, subst, ◌∙◌, map, All}
use Rattle.std.specs.Prelude.{IsTrue}
use Rattle.std.proofs.lemmas.Result.{IfOk-weaker}
use Rattle.staat_holds.specs.declared.ways.Way.{Way}
use Rattle.staat_holds.specs.VisitedNodes.{HasWay, IsWayWithin, turned_way}
use Rattle.staat_holds.specs.Reaching.{Reaches}
use Rattle.staat_holds.proofs.ReachLemmas.{all_by_first, back_by_all, turned_within}
use Rattle.staat_holds.proofs.reach.all_reach.Goals as goal

pub reaches_all-requires-2-clause-ways : goal.reaches_all-requires-2-clause-ways
reaches_all-requires-2-clause-ways c =
    let is : c.as_slice.result.now ≡ map turned_way c.args.ways.now = c.as_slice.ensures.value ∙ c.in_ok-back.ensures in
    subst (All (IsWayWithin c.args.count)) (sym is) (turned_within c.args.count c.args.ways.now c.requires.ways)

pub returns : goal.returns
returns c =
    let ways = c.args.ways.now in
    let is : c.as_slice.result.now ≡ map turned_way ways = c.as_slice.ensures.value ∙ c.in_ok-back.ensures in
    let out : (k : ℕ) → k < c.args.count → Reaches (HasWay ways) 0 k = c.in_ok-reaches_all.ensures.0 c.if-not-branch.false in
    IfOk-weaker c.reaches_all-2.result _ _ (λ answer tells.
    let here = subst (λ (ws : List Way). IsTrue answer ↔ ((k : ℕ) → k < c.args.count → Reaches (HasWay ws) 0 k)) is tells in (
      λ yes. all_by_first ways c.args.count c.requires.some out (here.0 yes),
      λ all. here.1 (back_by_all ways c.args.count c.requires.some all),
    )) c.reaches_all-2.ensures
