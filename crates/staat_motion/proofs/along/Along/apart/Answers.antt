use Rattle.std.proofs.Common.{◌↔◌, subst}
use Rattle.std.specs.Prelude.{IsTrue}
use Rattle.staat_motion.specs.Shadows.{IsApartAlong}
use Rattle.staat_motion.proofs.Kept.{apart_at, apart_never}
use Rattle.staat_motion.proofs.along.Along.apart.Goals as goal

pub returns-clause-seen : goal.returns-clause-seen
returns-clause-seen c parts made = apart_at parts c.args.self.now c.args.arc c.shadow.result.now c.shadow-2.result.now c.is_apart.result c.direction-d.ensures.rules made c.shadow.ensures c.shadow-2.ensures
    (subst (λ e. IsTrue c.is_apart.result ↔ IsApartAlong e c.shadow.result.now c.shadow-2.result.now) c.direction-d.ensures.is c.is_apart.ensures)

pub returns-clause-never : goal.returns-clause-never
returns-clause-never c parts made told = apart_never parts c.args.self.now c.args.arc made ((returns-clause-seen c parts made).0 told)
