use Rattle.std.proofs.Common.{List, length, refl, subst, sym}
use Rattle.staat_model.specs.Plans.{IsGood, plan_of}
use Rattle.staat_model.specs.Sets.{below}
use Rattle.staat_holds.specs.declared.hold.Hold.{Hold}
use Rattle.staat_holds.specs.Partials.{HasSmallDirections}
use Rattle.staat_decide.specs.Decided.{IsDecision, IsStuckHold}
use Rattle.staat_rest.specs.Turning.{HaveLists, IsTurned}
use Rattle.staat_rest.proofs.MergedHold.{nodes_within, pairs_have}
use Rattle.staat_rest.proofs.Rounds.{are_as, node_hold}
use Rattle.staat_rest.proofs.TurnedPlan.{leaves_within, lists_keep, rest_shown}
use Rattle.staat_rest.proofs.rest.turned.Goals as goal

pub turned_tree-requires-clause-lists : goal.turned_tree-requires-clause-lists
turned_tree-requires-clause-lists c =
    let parts = c.args.parts.now in
    let m = c.args.merged.now in
    let names = c.args.groups.now.names.items in
    let lists = c.args.groups.now.lists.items in
    let heads = c.as_slice-heads.result.now in
    let are = are_as parts names names m.heads heads m.origins m.origins m.parts m.parts refl c.as_slice-heads.ensures refl refl c.requires.merged in
    subst (λ (ls : List (List Hold)). HaveLists parts heads ls) (sym c.as_slice-shown.ensures.value) (lists_keep parts names heads lists are.heads_are c.requires.shown)

pub turned_tree-requires-clause-leaves : goal.turned_tree-requires-clause-leaves
turned_tree-requires-clause-leaves c =
    let parts = c.args.parts.now in
    let m = c.args.merged.now in
    let names = c.args.groups.now.names.items in
    let lists = c.args.groups.now.lists.items in
    let heads = c.as_slice-heads.result.now in
    let are = are_as parts names names m.heads heads m.origins m.origins m.parts m.parts refl c.as_slice-heads.ensures refl refl c.requires.merged in
    let good : IsGood m.parts (below (length m.parts)) (plan_of c.in-Apart.tree) × HasSmallDirections (plan_of c.in-Apart.tree) = subst (IsDecision m.parts (below (length m.parts))) c.in-Apart.is c.requires.decided in
    leaves_within parts names heads lists m.origins m.parts c.requires.parts c.requires.shown are (plan_of c.in-Apart.tree) good.0

pub returns-in_ok-rest-in-Apart : goal.returns-in_ok-rest-in-Apart
returns-in_ok-rest-in-Apart c =
    let parts = c.args.parts.now in
    let m = c.args.merged.now in
    let names = c.args.groups.now.names.items in
    let lists = c.args.groups.now.lists.items in
    let heads = c.as_slice-heads.result.now in
    let are = are_as parts names names m.heads heads m.origins m.origins m.parts m.parts refl c.as_slice-heads.ensures refl refl c.requires.merged in
    let good : IsGood m.parts (below (length m.parts)) (plan_of c.in-Apart.tree) × HasSmallDirections (plan_of c.in-Apart.tree) = subst (IsDecision m.parts (below (length m.parts))) c.in-Apart.is c.requires.decided in
    let plan = plan_of c.in-Apart.tree in
    let rest = c.in_ok-rest-in-Apart.rest in
    let is = subst (λ (ls : List (List Hold)). IsTurned parts heads ls plan rest) c.as_slice-shown.ensures.value c.in_ok-rest-in-Apart.ensures in
    rest_shown parts names heads lists m.origins m.parts c.requires.parts c.requires.shown are plan rest good.0 good.1 is

pub turned_hold-requires-clause-nodes : goal.turned_hold-requires-clause-nodes
turned_hold-requires-clause-nodes c =
    let parts = c.args.parts.now in
    let m = c.args.merged.now in
    let names = c.args.groups.now.names.items in
    let lists = c.args.groups.now.lists.items in
    let heads = c.as_slice-heads.result.now in
    let origins = c.as_slice-origins.result.now in
    let are = are_as parts names names m.heads heads m.origins origins m.parts m.parts refl c.as_slice-heads.ensures c.as_slice-origins.ensures refl c.requires.merged in
    let hold = c.in-Held.hold in
    let stuck : IsStuckHold m.parts hold = subst (IsDecision m.parts (below (length m.parts))) c.in-Held.is c.requires.decided in
    nodes_within parts names heads origins m.parts are hold stuck

pub turned_hold-requires-clause-pairs : goal.turned_hold-requires-clause-pairs
turned_hold-requires-clause-pairs c =
    let parts = c.args.parts.now in
    let m = c.args.merged.now in
    let names = c.args.groups.now.names.items in
    let lists = c.args.groups.now.lists.items in
    let heads = c.as_slice-heads.result.now in
    let origins = c.as_slice-origins.result.now in
    let are = are_as parts names names m.heads heads m.origins origins m.parts m.parts refl c.as_slice-heads.ensures c.as_slice-origins.ensures refl c.requires.merged in
    let hold = c.in-Held.hold in
    let stuck : IsStuckHold m.parts hold = subst (IsDecision m.parts (below (length m.parts))) c.in-Held.is c.requires.decided in
    pairs_have parts names heads origins m.parts are hold stuck

pub returns-in_ok-turned-in-Held : goal.returns-in_ok-turned-in-Held
returns-in_ok-turned-in-Held c =
    let parts = c.args.parts.now in
    let m = c.args.merged.now in
    let names = c.args.groups.now.names.items in
    let lists = c.args.groups.now.lists.items in
    let heads = c.as_slice-heads.result.now in
    let origins = c.as_slice-origins.result.now in
    let are = are_as parts names names m.heads heads m.origins origins m.parts m.parts refl c.as_slice-heads.ensures c.as_slice-origins.ensures refl c.requires.merged in
    let hold = c.in-Held.hold in
    let stuck : IsStuckHold m.parts hold = subst (IsDecision m.parts (below (length m.parts))) c.in-Held.is c.requires.decided in
    let told = c.in_ok-turned-in-Held.ensures in
    node_hold parts names heads lists origins m.parts c.requires.shown are hold c.in_ok-turned-in-Held.turned stuck told.nodes told.ordered told.keeps
