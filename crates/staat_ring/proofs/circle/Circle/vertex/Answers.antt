use Rattle.std.proofs.Common.{ap, ◌∙◌}
use Rattle.staat_vec.proofs.Unique.{from_place}
use Rattle.staat_ring.specs.Rings.{Ring, crossing}
use Rattle.staat_ring.specs.WholeCircles.{stop_at}
use Rattle.staat_ring.proofs.StopLemmas.{vertex_first}
use Rattle.staat_ring.proofs.WholeCircles.{entry_other, entry_small}
use Rattle.staat_ring.proofs.circle.Circle.vertex.Goals as goal

pub of-requires-clause-plane : goal.of-requires-clause-plane
of-requires-clause-plane c =
    entry_small c.args.table.now.planes c.set-set.ensures.rules.planes c.args.self.now c.requires.circle c.args.k c.requires.place c.first_entry.result
    (from_place (stop_at c.args.self.now c.args.k).entries 0 c.first_entry.result c.first_entry.ensures)

pub of-requires-clause-different : goal.of-requires-clause-different
of-requires-clause-different c same =
    entry_other c.args.table.now.planes c.set-set.ensures.rules.planes c.args.self.now c.requires.circle c.args.k c.requires.place c.first_entry.result
    (from_place (stop_at c.args.self.now c.args.k).entries 0 c.first_entry.result c.first_entry.ensures) (same ∙ ap (λ (r : Ring). r.plane) c.self.view_is)

pub returns : goal.returns
returns c =
    c.of.ensures ∙ ap (λ (r : Ring). crossing c.args.table.now.planes r.plane c.first_entry.result) c.self.view_is
    ∙ vertex_first c.args.table.now.planes c.args.self.now.plane (stop_at c.args.self.now c.args.k).entries c.first_entry.result c.first_entry.ensures
