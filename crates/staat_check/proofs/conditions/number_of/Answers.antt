use Rattle.staat_vec.proofs.Primitives.{IsPrimitive-some}
use Rattle.staat_check.proofs.ConditionLemmas.{number_is}
use Rattle.staat_check.proofs.conditions.number_of.Goals as goal

pub canon-requires-clause-some : goal.canon-requires-clause-some
canon-requires-clause-some c = IsPrimitive-some c.args.facet c.requires.facet.primitive

pub returns-then-ahead-turned : goal.returns-then-ahead-turned
returns-then-ahead-turned c = (number_is c.args.planes.now c.args.k c.args.facet c.canon.result c.is_same-ahead.result c.args.turned c.canon.ensures.value c.is_same-ahead.ensures c.requires.plane).0 c.if-ahead-turned.true

pub returns-else-ahead-turned : goal.returns-else-ahead-turned
returns-else-ahead-turned c = (number_is c.args.planes.now c.args.k c.args.facet c.canon.result c.is_same-ahead.result c.args.turned c.canon.ensures.value c.is_same-ahead.ensures c.requires.plane).1 c.if-ahead-turned.false
