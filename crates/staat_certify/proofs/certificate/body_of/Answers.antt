use Rattle.std.proofs.Common.{List, ℕ, subst, sym}
use Rattle.std.specs.Prelude.{IfOk}
use Rattle.std.proofs.lemmas.Result.{IfOk-weaker}
use Rattle.staat_model.specs.declared.assembly.Part.{Part}
use Rattle.staat_model.specs.declared.tree.Outcome.{Outcome}
use Rattle.staat_model.specs.declared.tree.Kind.{Kind}
use Rattle.staat_model.specs.Certify.{IsBodyOf}
use Rattle.staat_model.specs.Outcomes.{finding_of, planned}
use Rattle.staat_model.specs.Plans.{plan_of}
use Rattle.staat_certify.proofs.certificate.body_of.Goals as goal

pub returns-in-Plan : goal.returns-in-Plan
returns-in-Plan g c =
    let parts = c.assembly.result.now in
    let plan = plan_of c.in-Plan.tree in
    subst (λ (parts : List Part). IfOk c.plan_body.result (IsBodyOf parts c.args.version (finding_of c.args.outcome.now))) c.assembly.ensures.assembly
    (subst (λ (o : Outcome). IfOk c.plan_body.result (IsBodyOf parts c.args.version (finding_of o))) (sym c.in-Plan.is)
    (IfOk-weaker c.plan_body.result (λ b. (v : ℕ) (ms : List Kind) → IsBodyOf parts v (planned plan ms) b) (IsBodyOf parts c.args.version (planned plan c.in-Plan.marks))
    (λ b each. each c.args.version c.in-Plan.marks) c.plan_body.ensures))
