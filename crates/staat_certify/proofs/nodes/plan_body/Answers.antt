use Rattle.staat_certify.proofs.nodes.plan_body.Goals as goal
use Rattle.std.proofs.Common.{◌++◌, ◌∙◌, ap, length, subst, sym}
use Rattle.staat_model.specs.Certify.{ArePlanNodes}
use Rattle.staat_model.specs.declared.set.PartSet.{PartSet}
use Rattle.staat_model.specs.Plans.{IsGood, plan_of}
use Rattle.staat_model.specs.Sets.{below}
use Rattle.staat_certify.proofs.CertificateLemmas.{part_numbers}
use Rattle.staat_model.proofs.LeavingLemmas.{good_parts}

pub push_nodes-requires-clause-parts : goal.push_nodes-requires-clause-parts
push_nodes-requires-clause-parts g c = part_numbers c.args.assembly.now (plan_of c.args.tree.now) c.parts-parts.ensures.assembly c.requires.good

pub push_nodes-requires-clause-good : goal.push_nodes-requires-clause-good
push_nodes-requires-clause-good g c =
    let parts = c.args.assembly.now in
    let plan = plan_of c.args.tree.now in
    subst (λ (w : PartSet). IsGood parts w plan) (good_parts parts (below (length parts)) plan c.requires.good) c.requires.good

pub returns : goal.returns
returns g c version marks =
    let adds = c.in_ok-push_nodes.ensures in
    subst (ArePlanNodes c.args.assembly.now (plan_of c.args.tree.now)) (sym (c.from_vec.ensures ∙ adds.is ∙ ap (λ l. l ++ adds.nodes) c.new-nodes.ensures.items)) adds.are
