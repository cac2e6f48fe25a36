use Rattle.staat_decide.proofs.Held.{held_from, none_is, none_weaker_told}
use Rattle.staat_decide.proofs.peeling.decided.Goals as goal

pub returns-in-None-clause-none : goal.returns-in-None-clause-none
returns-in-None-clause-none c =
    none_weaker_told c.split-in-None.result (λ back parts d is. held_from parts d c.args.w.now c.args.rows.now is (none_is c.in_ok-sets.field-0 c.in-None.is c.in_ok-sets.ensures.none) back) c.split-in-None.ensures.none
