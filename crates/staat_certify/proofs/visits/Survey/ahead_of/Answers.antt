use Rattle.std.proofs.Common.{Some, refl}
use Rattle.staat_certify.proofs.AheadLemmas.{ahead_next}
use Rattle.staat_certify.proofs.visits.Survey.ahead_of.Goals as goal

pub returns-then-first-eq0 : goal.returns-then-first-eq0
returns-then-first-eq0 c =
    let first = c.first_entry-first.result in
    ahead_next c.args.self.now.table.now.planes c.set-set.ensures.rules.planes c.args.circle.now c.requires.circle c.args.k c.requires.place first c.first_entry-first.ensures
    c.args.ahead (Some first.turned) (λ z. refl) (λ nz. absurd (nz c.if-first-eq0.true)) c.requires.ahead

pub returns-else-first-eq0 : goal.returns-else-first-eq0
returns-else-first-eq0 c =
    ahead_next c.args.self.now.table.now.planes c.set-set.ensures.rules.planes c.args.circle.now c.requires.circle c.args.k c.requires.place c.first_entry-first.result c.first_entry-first.ensures
    c.args.ahead c.args.ahead (λ z. absurd (c.if-first-eq0.false z)) (λ nz. refl) c.requires.ahead
