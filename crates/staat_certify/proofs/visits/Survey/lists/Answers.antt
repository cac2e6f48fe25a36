use Rattle.std.proofs.Common.{subst}
use Rattle.staat_ring.specs.WholeCircles.{vertex_at}
use Rattle.staat_certify.specs.Visits.{IsToldAhead}
use Rattle.staat_certify.proofs.AheadLemmas.{canon_ahead}
use Rattle.staat_certify.proofs.visits.Survey.lists.Goals as goal

pub returns-in-Some : goal.returns-in-Some
returns-in-Some c =
    let planes = c.args.self.now.table.now.planes in
    let r = c.args.circle.now in
    let told = subst (λ a. IsToldAhead planes r a c.args.k) c.in-Some.is c.requires.ahead c.requires.place c.first_entry.result c.first_entry.ensures c.if-first_entry-ne0.true in
    let law = canon_ahead planes c.set-set.ensures.rules.planes (vertex_at planes r c.args.k) c.in-Some.positive told in
    (λ yes two. law.0 yes, λ canonical. law.1 (canonical c.if-self-ne2.false))
