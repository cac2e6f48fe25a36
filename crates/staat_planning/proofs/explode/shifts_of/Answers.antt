use Rattle.staat_model.specs.Plans.{plan_of}
use Rattle.staat_planning.proofs.ExplodeLemmas.{shifted_each}
use Rattle.staat_planning.proofs.explode.shifts_of.Goals as goal

pub returns-in-Ok-clause-each : goal.returns-in-Ok-clause-each
returns-in-Ok-clause-each c = shifted_each c.args.sound.now (plan_of c.args.tree.now) c.in-Ok.shifts c.in-Ok.ensures.exact
