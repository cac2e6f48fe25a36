use Rattle.std.proofs.Common.{ℕ, ◌<◌, ◌↔◌, subst}
use Rattle.staat_graph.specs.Graphs.{HasArc}
use Rattle.staat_ring.specs.CountedSigns.{HasBlockingPair}
use Rattle.staat_ring.specs.Walked.{Walked}
use Rattle.staat_ring.specs.Rings.{linked_of}
use Rattle.staat_ring.proofs.ArcLaw.{shows_blocking}
use Rattle.staat_ring.proofs.walk.Walk.graph.Goals as goal

pub returns : goal.returns
returns c parts t rings w made rules to entered within whole =
    shows_blocking parts t c.args.self.now.signs (linked_of rings) c.args.self.now.vertex w made rules to entered.signs within whole c.graph.result.rows
    (subst (λ (x : Walked). (a b : ℕ) → a < 32 → b < 32 → HasArc c.graph.result.rows a b ↔ HasBlockingPair x.signs a b) c.self.view_is c.graph.ensures)
