use Rattle.std.proofs.Common.{◌↔◌, subst}
use Rattle.std.specs.Prelude.{IsTrue}
use Rattle.staat_graph.specs.Graphs.{IsStrong}
use Rattle.staat_ring.specs.Rings.{linked_of}
use Rattle.staat_ring.specs.CountedSigns.{HasBlockingPair}
use Rattle.staat_ring.specs.Walked.{Walked}
use Rattle.staat_ring.proofs.ArcLaw.{strong_blocking}
use Rattle.staat_ring.proofs.walk.Walk.is_strong.Goals as goal

pub returns : goal.returns
returns c parts t rings made rules to entered within whole =
    let law = strong_blocking parts t c.args.self.now.signs (linked_of rings) c.args.self.now.vertex c.args.w made rules to entered.signs within whole in
    let told = subst (λ (x : Walked). IsTrue c.is_strong.result ↔ IsStrong (HasBlockingPair x.signs) c.args.w) c.self.view_is c.is_strong.ensures in
    ((λ t. law.0 (told.0 t)), (λ s. told.1 (law.1 s)))
