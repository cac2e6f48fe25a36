use Rattle.std.proofs.Common.{subst}
use Rattle.std.specs.Prelude.{flat_map}
use Rattle.staat_motion.specs.Shadows.{IsApartAlong}
use Rattle.staat_motion.proofs.Kept.{apart_from_all}
use Rattle.staat_motion.proofs.Walls.{apart_is}
use Rattle.staat_motion.proofs.along.Along.is_clear_of.Goals as goal

pub returns : goal.returns
returns c told =
    let f = c.args.self.now.frame in
    let d = c.args.self.now.d in
    let p = c.args.p.now in
    let qs = c.args.others.now.pieces.now in
    let s = c.args.s.now in
    let w = c.args.others.now.whole.now in
    let seen = (apart_is f d p (flat_map (λ q. q) qs) s w c.direction-d.ensures.rules.across c.requires.first c.requires.others.all).0
    (subst (λ e. IsApartAlong e s w) c.direction-d.ensures.is (c.is_apart.ensures.0 told)) in
    apart_from_all f d p qs c.points-piece.ensures.piece seen
