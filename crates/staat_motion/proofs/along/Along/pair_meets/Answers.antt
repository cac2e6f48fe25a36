use Rattle.std.proofs.Common.{refl, subst}
use Rattle.staat_motion.specs.Shadows.{IsApartAlong}
use Rattle.staat_motion.proofs.Walls.{apart_is, seen_never}
use Rattle.staat_motion.proofs.along.Along.pair_meets.Goals as goal

pub returns-then-is_apart : goal.returns-then-is_apart
returns-then-is_apart g c =
    let f = c.args.self.now.frame in
    let d = c.args.self.now.d in
    let p = c.args.p.now in
    let q = c.args.q.now in
    let seen = (apart_is f d p q c.args.s.now c.args.t.now c.direction-d.ensures.rules.across c.requires.first c.requires.second).0 (subst (λ e. IsApartAlong e c.args.s.now c.args.t.now) c.direction-d.ensures.is (c.if-is_apart.ensures.0 refl)) in
    ((λ t. absurd cc), (λ m. absurd (seen_never f p q d c.points-piece.ensures.piece seen m)))
