use Rattle.std.proofs.Common.{◌↔◌, List, sym, subst, All}
use Rattle.std.specs.Prelude.{IsTrue}
use Rattle.std.proofs.lemmas.Result.{IfOk-weaker}
use Rattle.staat_holds.specs.declared.ways.Way.{Way}
use Rattle.staat_holds.specs.Links.{SomeLeads}
use Rattle.staat_holds.specs.VisitedNodes.{HasWay, IsWayWithin}
use Rattle.staat_holds.specs.Reaching.{AllReach}
use Rattle.staat_holds.proofs.LinkLemmas.{ways_within}
use Rattle.staat_holds.proofs.ReachLemmas.{all_carried}
use Rattle.staat_holds.proofs.judge.is_joined.Goals as goal

pub all_reach-requires-clause-ways : goal.all_reach-requires-clause-ways
all_reach-requires-clause-ways c = subst (All (IsWayWithin c.args.count)) (sym c.as_slice.ensures.value) (ways_within c.args.count c.args.d c.args.links.now c.in_ok-ways.ways.items c.requires.links c.in_ok-ways.ensures)

pub returns : goal.returns
returns c =
    let same = all_carried {R = HasWay c.in_ok-ways.ways.items} {S = SomeLeads c.args.links.now c.args.d} c.args.count c.in_ok-ways.ensures in
    IfOk-weaker c.all_reach.result _ _ (λ answer found.
    let tells = subst (λ (ws : List Way). IsTrue answer ↔ AllReach c.args.count (HasWay ws)) c.as_slice.ensures.value found in
    (λ yes. same.0 (tells.0 yes), λ all. tells.1 (same.1 all))) c.all_reach.ensures
