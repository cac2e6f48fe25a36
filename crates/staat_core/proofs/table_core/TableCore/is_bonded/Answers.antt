use Rattle.std.proofs.Common.{◌≤◌, subst}
use Rattle.staat_core.specs.Bonds.{AreTogether}
use Rattle.staat_core.specs.Listed.{pairs_in_use}
use Rattle.staat_core.specs.Sources.{both_ways}
use Rattle.staat_core.proofs.Bonding.{together_hold}
use Rattle.staat_core.proofs.table_core.TableCore.is_bonded.Goals as goal

pub returns : goal.returns
returns c told parts d made some =
    together_hold parts (both_ways (pairs_in_use c.args.self.now.list)) c.args.w d c.args.self.now.moving (subst (λ n. 2 ≤ n) c.count.ensures.is c.if-count-lt2.false)
    (λ p q p_in q_in. subst (λ l. AreTogether parts (both_ways l) c.args.w d p q) c.pairs.ensures (c.stays_together.ensures told parts d p q made some p_in q_in))
