use Rattle.std.proofs.{Common.{◌≡◌, ◌∙◌, ◌<◌, arith, subst, sym}, lemmas.Result.IfOk-weaker}
use Rattle.std.specs.FinSet as set
use Rattle.staat_model.specs.{Outcomes.{IsOutcome, finding_of, moved_stuck, no_step}, Sets.{IsNonempty, IsSubset}}
use Rattle.staat_model.specs.declared.set.PartSet.{PartSet}
use Rattle.staat_model.proofs.{OtherSides.rest_some, RestrictLemmas.rest_within}
use Rattle.staat_plan.specs.Planning.{joined_finding, try_of}
use Rattle.staat_plan.proofs.OutcomeLemmas.{leaf_found, many_parts, rest_fewer, side_fewer, sides_found}
use Rattle.staat_plan.proofs.StepLemmas.{step_side}
use Rattle.staat_plan.proofs.planner.Planner.+outcome_of_set.Goals as goal

pub returns-then-count-eq1-clause-outcome : goal.returns-then-count-eq1-clause-outcome
returns-then-count-eq1-clause-outcome g t c =
    leaf_found c.args.self.now.options.robust c.args.self.now.sound.now c.args.w c.least.result (finding_of c.leaf.result)
    (sym c.count.ensures.is ∙ c.if-count-eq1.true) c.least.ensures.least.has c.leaf.ensures

pub next_step-requires-clause-two : goal.next_step-requires-clause-two
next_step-requires-clause-two g t c = many_parts c.args.w c.count.result c.requires.some c.count.ensures.is c.if-count-eq1.false

pub returns-in_default-clause-outcome : goal.returns-in_default-clause-outcome
returns-in_default-clause-outcome g t c =
    no_step (many_parts c.args.w c.count.result c.requires.some c.count.ensures.is c.if-count-eq1.false)
    (rw c.in_default.is at c.in_ok-found.ensures.step)

pub outcome_of_set-requires : goal.outcome_of_set-requires
outcome_of_set-requires g t c κs within =
    let found = c.in-Some.found in
    let side = step_side c.args.self.now.options.robust c.args.self.now.sound.now c.args.w (try_of found) found.step.moved
    (rw c.in-Some.is at c.in_ok-found.ensures.step) in
    let less : set.len found.step.moved < set.len c.args.w = side_fewer c.args.w found.step.moved side in
    (omega (arith, less, c.decreases), (within, (c.requires.planner, (c.in_ok-found.ensures.ready, (side.nonempty, λ p h. c.requires.within p (side.within p h))))))

pub outcome_of_set-requires-2 : goal.outcome_of_set-requires-2
outcome_of_set-requires-2 g t c κs within =
    let found = c.in-Some.found in
    let r = c.without-other.result in
    let side = step_side c.args.self.now.options.robust c.args.self.now.sound.now c.args.w (try_of found) found.step.moved
    (rw c.in-Some.is at c.in_ok-found.ensures.step) in
    let same : r ≡ set.difference c.args.w found.step.moved = c.without-other.ensures.is in
    let some = subst IsNonempty (sym same) (rest_some c.args.w found.step.moved side) in
    let inside = subst (λ (t : PartSet). IsSubset t c.args.w) (sym same) (rest_within c.args.w found.step.moved) in
    let less : set.len r < set.len c.args.w = rest_fewer c.args.w found.step.moved r side same in
    let all : IsSubset r c.args.self.now.table.now.of = λ p h. c.requires.within p (inside p h) in
    (omega (arith, less, c.decreases), (within, (c.requires.planner, (c.in_ok-moved.ensures.ready, (some, all)))))

pub returns-in-Stuck-clause-outcome : goal.returns-in-Stuck-clause-outcome
returns-in-Stuck-clause-outcome g t c =
    moved_stuck (many_parts c.args.w c.count.result c.requires.some c.count.ensures.is c.if-count-eq1.false)
    (rw c.in-Some.is at c.in_ok-found.ensures.step) (rw c.in-Stuck.is at c.in_ok-moved.ensures.outcome)

pub returns-clause-outcome : goal.returns-clause-outcome
returns-clause-outcome g t c =
    let robust = c.args.self.now.options.robust in
    let parts = c.args.self.now.sound.now in
    let moved = finding_of c.in_ok-moved.moved in
    let rest = finding_of c.in_ok-rest.rest in
    IfOk-weaker c.join_sides.result (λ o. finding_of o ≡ joined_finding c.in-Some.found moved rest)
    (λ o. IsOutcome robust parts c.args.w (finding_of o)) (λ o e. subst (IsOutcome robust parts c.args.w) (sym e)
    (sides_found robust parts c.args.w c.without-other.result c.in-Some.found moved rest
    (many_parts c.args.w c.count.result c.requires.some c.count.ensures.is c.if-count-eq1.false)
    (rw c.in-Some.is at c.in_ok-found.ensures.step) c.without-other.ensures.is c.in_ok-moved.ensures.outcome
    c.in_ok-rest.ensures.outcome)) c.join_sides.ensures
