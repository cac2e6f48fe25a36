use Rattle.std.proofs.Common.{◌↔◌, subst}
use Rattle.std.specs.Prelude.{IsTrue}
use Rattle.staat_motion.specs.Shadows.{IsApartAlong}
use Rattle.staat_motion.proofs.Kept.{piece_apart_at, piece_never}
use Rattle.staat_motion.proofs.along.Along.piece_apart.Goals as goal

pub returns-clause-seen : goal.returns-clause-seen
returns-clause-seen c parts p made p_is = piece_apart_at parts c.args.self.now c.args.a c.args.i c.args.b p c.shadow.result.now c.whole.result.now c.is_apart.result c.direction-d.ensures.rules made p_is c.shadow.ensures c.whole.ensures
    (subst (λ e. IsTrue c.is_apart.result ↔ IsApartAlong e c.shadow.result.now c.whole.result.now) c.direction-d.ensures.is c.is_apart.ensures)

pub returns-clause-never : goal.returns-clause-never
returns-clause-never c parts j made told meets =
    piece_never parts c.args.self.now (record { a = c.args.a; i = c.args.i; b = c.args.b; j = j }) meets made ((returns-clause-seen c parts meets.p made meets.p_is).0 told)
