use Rattle.std.proofs.{Common.{arith, false, true, sym, subst}, lemmas.Result.IfOk-weaker}
use Rattle.staat_model.specs.{Outcomes.try_vertex, Sets.{Has, IsSubset}, declared.set.PartSet.PartSet}
use Rattle.staat_model.proofs.SetWords.{same_members}
use Rattle.staat_plan.specs.Planning.{IsSetStep, IsStepOf}
use Rattle.staat_plan.proofs.{CellStepLemmas.stuck_step, StepLemmas.{none_if_stuck, step_serves}}
use Rattle.staat_plan.proofs.planner.Planner.robust_step.Goals as goal

pub returns-in_default-step_of : goal.returns-in_default-step_of
returns-in_default-step_of g c =
    let made = c.requires.planner.all.table.made in
    let parts = c.args.self.now.sound.now in
    stuck_step parts c.args.self.now.table.now c.args.w made c.requires.within
    (omega (arith, c.requires.planner.all.few, c.requires.planner.cells c.requires.robust)) c.requires.two
    ((none_if_stuck parts c.args.w c.step_of.result made.assembly c.requires.two (c.step_of.ensures.step parts made)).0
    c.in_default-step_of.is)

pub lone_step-requires-clause-nonzero : goal.lone_step-requires-clause-nonzero
lone_step-requires-clause-nonzero g c =
    let first = c.in-Some-step_of.first in
    let serves = step_serves false c.args.self.now.sound.now c.args.w (try_vertex first.d) first.moved
    (c.in-Some-step_of.ensures.step c.args.self.now.sound.now c.requires.planner.all.table.made) in
    let free = serves.free in
    free.moves

pub returns-then-within : goal.returns-then-within
returns-then-within g c =
    let t = c.args.self.now.table.now in
    let over : IsSubset t.of c.args.w = λ p h.
    c.within.ensures.0 c.if-within.true p (subst (λ (s : PartSet). Has s p) (sym c.set.ensures.is) h) in
    let parts = c.args.self.now.sound.now in
    let made = c.requires.planner.all.table.made in
    let same = same_members t.of c.args.w over c.requires.within in
    IfOk-weaker c.cell_step.result (IsSetStep true t t.of) (IsStepOf true parts c.args.w)
    (λ found step. subst (λ (u : PartSet). IsStepOf true parts u found) same (step parts made))
    c.cell_step.ensures
