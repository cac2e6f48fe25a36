use Rattle.std.proofs.Common.{subst}
use Rattle.std.specs.Prelude.{IsTrue}
use Rattle.staat_vec.specs.declared.vector.V3.{V3}
use Rattle.staat_core.specs.Cores.{core_pairs}
use Rattle.staat_core.specs.Moves.{HoldsMoves}
use Rattle.staat_core.specs.Sources.{both_ways}
use Rattle.staat_core.proofs.Holding.{held_by_arcs}
use Rattle.staat_core.proofs.cores.Core.settle.Goals as goal

pub put_joins-requires-clause-low : goal.put_joins-requires-clause-low
put_joins-requires-clause-low g c fair = subst IsTrue c.has_low_facets.ensures (c.of-heading.ensures.small fair)

pub grow_at-requires-clause-low : goal.grow_at-requires-clause-low
grow_at-requires-clause-low g c fair = subst IsTrue c.has_low_facets.ensures (c.of-heading.ensures.small fair)

pub returns-in-None-clause-held : goal.returns-in-None-clause-held
returns-in-None-clause-held g c told parts speaks =
    subst (λ (e : V3). HoldsMoves parts (both_ways (core_pairs c.args.self.now)) c.args.moving c.args.w e) c.of-heading.ensures.is
    (held_by_arcs parts (core_pairs c.args.self.now) c.args.moving c.args.w c.of-heading.result.d c.put_joins.new.joins.ahead.rows (c.put_joins.ensures.leads parts speaks) c.in-None.ensures)

pub returns-in-Some-clause-held : goal.returns-in-Some-clause-held
returns-in-Some-clause-held g c told parts speaks =
    subst (λ (e : V3). HoldsMoves parts (both_ways (core_pairs c.grow_at.new.self)) c.args.moving c.args.w e) c.of-heading.ensures.is (c.grow_at.ensures.held told parts speaks)
