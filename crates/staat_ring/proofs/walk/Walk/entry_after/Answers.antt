use Rattle.std.proofs.Common.{◌≤◌, length, sym, subst, ap, ◌∙◌}
use Rattle.staat_ring.specs.Places.{IsStopAt}
use Rattle.staat_ring.specs.Rings.{unlinked_of}
use Rattle.staat_ring.specs.Walked.{Walked}
use Rattle.staat_ring.proofs.StopLemmas.{few}
use Rattle.staat_ring.proofs.walk.Walk.entry_after.Goals as goal

pub entry_after-requires-clause-few : goal.entry_after-requires-clause-few
entry_after-requires-clause-few c m s at is = subst (λ k. length s.entries ≤ k) (sym c.len.ensures.is) (few c.args.table.now.planes c.args.rings.now.rings (unlinked_of c.args.rings.now.unlinked) c.len.ensures.rules.planes c.requires.rings.now c.self.inside.circle m s at).0

pub returns : goal.returns
returns c s at is = c.entry_after.ensures c.self.inside.place s (subst (λ (w : Walked). IsStopAt c.args.rings.now.rings w.circle w.place s) (sym c.self.view_is) at) (is ∙ sym (ap (λ (w : Walked). w.node) c.self.view_is))
