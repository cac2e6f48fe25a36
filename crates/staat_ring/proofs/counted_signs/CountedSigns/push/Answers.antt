use Rattle.std.proofs.Common.{◌<◌, ◌+◌, subst, sym, ap, ◌∙◌, List, length}
use Rattle.std.proofs.lemmas.List.{length-map}
use Rattle.staat_ring.specs.CountedSigns.{PlaneState, Signed, state_at}
use Rattle.staat_ring.specs.SignChanges.{AreSigned, uses, emptied}
use Rattle.staat_ring.proofs.PairNumbers.{push_signed}
use Rattle.staat_ring.proofs.counted_signs.CountedSigns.push.Goals as goal

pub invariant_of-self-2 : goal.invariant_of-self-2
invariant_of-self-2 c =
    subst (λ (s : List PlaneState). AreSigned s c.self.inside.counts) (sym c.in_ok-push_at.ensures.ok)
    (push_signed c.self.inside.states.items c.self.inside.counts c.args.k c.args.q c.args.turned c.self.invariant
    (subst (λ (s : Signed). c.args.k < length s.states) (sym c.self.view_is) c.requires.plane)
    (ap (λ (s : Signed). (state_at s.states c.args.k).sign) c.self.view_is ∙ c.requires.zero)
    (subst (λ n. c.args.q < n) (length-map c.self.inside.counts emptied) (subst (λ (s : Signed). c.args.q < length s.pairs) (sym c.self.view_is) c.requires.pair))
    (subst (λ (s : Signed). uses c.args.q s.states + 1 < 65536) (sym c.self.view_is) c.requires.room))
