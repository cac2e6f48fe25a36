use Rattle.staat_cone.proofs.WallLemmas.{meets_by_list}
use Rattle.staat_cone.proofs.walls.blocks.Goals as goal

pub returns-clause-meets : goal.returns-clause-meets
returns-clause-meets c p q is_p is_q are =
    let law = meets_by_list p q c.args.facets.now c.args.d is_p is_q are in
    (λ t. law.1 (c.leads_ahead.ensures.0 t), λ m. c.leads_ahead.ensures.1 (law.0 m))
