use Rattle.std.proofs.{Common.{◌≡◌, length, subst}, lemmas.Result.err_from_is_err_and}
use Rattle.staat_model.specs.{Assemblies.IsAssembly, Outcomes.finding_of, Sets.below, declared.set.PartSet.PartSet}
use Rattle.staat_planes.specs.Refusals.{IsPlanesRefusal}
use Rattle.staat_plan.proofs.{OutcomeLemmas.{all_found, certified}, Right.right_lemma}
use Rattle.staat_plan.proofs.planner.plan_with_table.Goals as goal

pub returns-clause-outcome : goal.returns-clause-outcome
returns-clause-outcome g c =
    let all : c.first-all.result ≡ below (length c.args.sound.now) =
    (let a = c.first-all.ensures.is in let b = c.parts.ensures.count in let d = c.assembly.ensures.assembly in cc) in
    all_found c.args.options.robust c.args.sound.now (subst IsAssembly c.assembly.ensures.assembly c.parts.ensures.assembly)
    c.args.options.planes c.first-all.result c.in_ok-table.table c.in_ok-outcome.outcome all c.in_ok-table.ensures
    c.in_ok-outcome.ensures.outcome

pub returns-clause-right : goal.returns-clause-right
returns-clause-right g c =
    let outcome = returns-clause-outcome g c in
    right_lemma c.args.options.robust c.args.sound.now
    (subst IsAssembly c.assembly.ensures.assembly c.parts.ensures.assembly)
    (below (length c.args.sound.now)) (finding_of c.in_ok-outcome.outcome) outcome.is

pub returns-clause-certified : goal.returns-clause-certified
returns-clause-certified g c =
    let outcome = returns-clause-outcome g c in
    certified c.args.options.robust c.args.sound.now
    (subst IsAssembly c.assembly.ensures.assembly c.parts.ensures.assembly) c.args.options.planes
    (finding_of c.in_ok-outcome.outcome) c.requires.most (returns-clause-right g c) outcome.sized outcome.few

pub returns-in_err-table-clause-outcome : goal.returns-in_err-table-clause-outcome
returns-in_err-table-clause-outcome g c =
    let all : c.first-all.result ≡ below (length c.args.sound.now) =
    (let a = c.first-all.ensures.is in let b = c.parts.ensures.count in let d = c.assembly.ensures.assembly in cc) in
    let p = err_from_is_err_and c.from_residual.result c.from_residual.ensures.1 in
    rw (p.1, p.2) (subst (λ (w : PartSet). IsPlanesRefusal c.args.sound.now w c.args.options.planes c.in_err-table.field-0.0) all c.in_err-table.ensures)

pub returns-in_err-outcome-clause-outcome : goal.returns-in_err-outcome-clause-outcome
returns-in_err-outcome-clause-outcome g c =
    let p = err_from_is_err_and c.from_residual-in_err-outcome.result c.from_residual-in_err-outcome.ensures.1 in
    rw (p.1, p.2) tt
