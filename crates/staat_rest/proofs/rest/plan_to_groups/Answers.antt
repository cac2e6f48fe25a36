use Rattle.std.proofs.Common.{refl, subst}
use Rattle.staat_rest.specs.Nodes.{IsNodeHold}
use Rattle.staat_rest.specs.Turning.{IsRound}
use Rattle.staat_rest.proofs.Rounds.{hold_within, round_less, round_next}
use Rattle.staat_rest.proofs.rest.plan_to_groups.Goals as goal

pub rounds-init : goal.rounds-init
rounds-init g c = c.in_ok-groups.ensures c.args.parts.now refl

pub join-requires-clause-within : goal.join-requires-clause-within
join-requires-clause-within g c =
    let parts = c.args.parts.now in
    let names = c.rounds.groups.names.items in
    let lists = c.rounds.groups.lists.items in
    let is : IsNodeHold parts names lists c.in-Held.hold = subst (IsRound parts names lists) c.in-Held.is c.in_ok-rest.ensures in
    hold_within parts names lists c.rounds.invariant c.in-Held.hold is

pub rounds-preserved : goal.rounds-preserved
rounds-preserved g c =
    let parts = c.args.parts.now in
    let names = c.rounds.groups.names.items in
    let lists = c.rounds.groups.lists.items in
    let is : IsNodeHold parts names lists c.in-Held.hold = subst (IsRound parts names lists) c.in-Held.is c.in_ok-rest.ensures in
    let joined = c.in_ok-join-in-Held.ensures in
    round_next parts names lists c.rounds.invariant c.in-Held.hold is c.join.new.self.names.items c.join.new.self.lists.items joined.names joined.lists

pub rounds-smaller : goal.rounds-smaller
rounds-smaller g c =
    let parts = c.args.parts.now in
    let names = c.rounds.groups.names.items in
    let lists = c.rounds.groups.lists.items in
    let is : IsNodeHold parts names lists c.in-Held.hold = subst (IsRound parts names lists) c.in-Held.is c.in_ok-rest.ensures in
    round_less parts names lists c.rounds.invariant c.in-Held.hold is c.join.new.self.names.items c.in_ok-join-in-Held.ensures.names
