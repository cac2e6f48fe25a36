use Rattle.staat_cone.proofs.WallLemmas.{off_behind}
use Rattle.staat_cone.proofs.spread.off_plane.Goals as goal

pub returns-in-Some-violator-clause-off : goal.returns-in-Some-violator-clause-off
returns-in-Some-violator-clause-off c = off_behind c.in-Some-violator.v c.args.n c.neg.result c.neg.ensures.value c.in-Some-violator.ensures.some.behind
