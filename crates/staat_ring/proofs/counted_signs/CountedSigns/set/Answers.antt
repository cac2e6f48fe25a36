use Rattle.std.proofs.Common.{◌<◌, ◌∙◌, ap, arith, length}
use Rattle.std.proofs.lemmas.Grind.{common_steps}
use Rattle.staat_ring.specs.SignChanges.{with_plane_sign}
use Rattle.staat_ring.proofs.ArcLaw.{room, set_pairs}
use Rattle.staat_ring.proofs.counted_signs.CountedSigns.set.Goals as goal

pub gain_all-gained-requires-clause-room : goal.gain_all-gained-requires-clause-room
gain_all-gained-requires-clause-room c = λ q.
    let lt : c.args.k < length c.self.inside.states.items = grind arith in
    let r = room c.self.inside.states.items c.args.k c.args.sign lt c.self.inside.counts c.lose_all-lost.new.self c.self.invariant (λ q. cc (c.lose_all-lost.ensures.each q)) q in
    grind (arith, common_steps)

pub returns-clause-signs : goal.returns-clause-signs
returns-clause-signs c =
    let lt : c.args.k < length c.self.inside.states.items = grind arith in
    let e = set_pairs c.self.inside.states.items c.args.k c.args.sign lt c.self.inside.counts c.lose_all-lost.new.self c.self.invariant (λ q. cc (c.lose_all-lost.ensures.each q))
    c.gain_all-gained.new.self (λ q. grind (arith, common_steps, c.gain_all-gained.ensures.each q)) (c.gain_all-gained.ensures.length ∙ c.lose_all-lost.ensures.length) in
    (λ i. record { states = c.set_sign_at.ensures i; pairs = e i }) ∙ ap (with_plane_sign c.args.k c.args.sign) c.self.view_is
