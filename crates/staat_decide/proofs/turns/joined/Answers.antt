use Rattle.std.proofs.Common.{[], ◌∷◌, ◌++◌, List, ap, map, subst, sym, ◌∙◌}
use Rattle.std.proofs.lemmas.List.{map-append}
use Rattle.staat_model.specs.Leaving.{in_turn}
use Rattle.staat_model.specs.Plans.{Plan, plan_of}
use Rattle.staat_decide.proofs.InTurn.{IsInTurn, turn_step}
use Rattle.staat_decide.proofs.turns.joined.Goals as goal

pub loop-moved-preserved : goal.loop-moved-preserved
loop-moved-preserved c plan plans e =
    let d = c.args.d in
    let whole = in_turn d plan plans in
    let ahead = c.pop-in-loop-moved.new.self.items in
    let moved = c.in-Some-pop.moved in
    let tree = c.loop-moved.tree in
    let fronts = ap (map plan_of) c.in-Some-pop.ensures.items ∙ map-append plan_of ahead (moved ∷ []) in
    let before = subst (λ (ps : List Plan). IsInTurn d (ps ++ plan_of tree ∷ []) whole) fronts (c.loop-moved.invariant plan plans e) in
    subst (λ (p : Plan). IsInTurn d (map plan_of ahead ++ p ∷ []) whole) (sym c.in_ok-tree.ensures)
    (turn_step d (map plan_of ahead) (plan_of moved) (plan_of tree) whole before)
