use Rattle.std.proofs.{Common.{arith, length, subst, true}, lemmas.Result.IfOk-weaker}
use Rattle.staat_model.specs.{Sets.Has, declared.set.PartSet.PartSet}
use Rattle.staat_model.proofs.SetBits.{has-below}
use Rattle.staat_planes.specs.Refusals.{IsPlanesRefusal, IsTableWithin}
use Rattle.staat_certify.proofs.CertificateLemmas.{none_refused}
use Rattle.staat_plan.specs.Planning.{IsSetStep, IsStepOf}
use Rattle.staat_plan.proofs.Fewer.{few_inside, few_of_table}
use Rattle.staat_plan.proofs.planner.Planner.own_step.Goals as goal

pub tabulate-requires-clause-parts : goal.tabulate-requires-clause-parts
tabulate-requires-clause-parts g c p h =
    (has-below (length c.args.self.now.sound.now) p).0 (subst (λ (u : PartSet). Has u p) c.requires.planner.all.table.set (c.requires.within p h))

pub unreachable-requires : goal.unreachable-requires
unreachable-requires g c =
    let parts = c.args.self.now.sound.now in
    let t = c.args.self.now.table.now in
    let limit = c.args.self.now.options.planes in
    let all = c.requires.planner.all in
    none_refused parts c.args.w limit c.in-Err-TooManyPlanes.field-0-0
    (few_inside parts c.args.w t.of limit limit (omega arith) c.requires.within
    (few_of_table parts t limit all.table.made all.few))
    (subst (IsPlanesRefusal parts c.args.w limit) c.in-Err-TooManyPlanes.field-0-is c.in-Err-TooManyPlanes.ensures)

pub returns-in-Ok : goal.returns-in-Ok
returns-in-Ok g c =
    let parts = c.args.self.now.sound.now in
    let own : IsTableWithin parts c.args.w c.args.self.now.options.planes c.in-Ok.own = c.in-Ok.ensures in
    IfOk-weaker c.cell_step.result (IsSetStep true c.in-Ok.own c.in-Ok.own.of) (IsStepOf true parts c.args.w)
    (λ found step. subst (λ (u : PartSet). IsStepOf true parts u found) own.table.set (step parts own.table.made))
    c.cell_step.ensures
