use Rattle.std.proofs.Common.{◌*◌}
use Rattle.staat_vec.specs.declared.vector.TheConstants.{POINT}
use Rattle.staat_cone.proofs.SearchLemmas.{plus_within}
use Rattle.staat_cone.proofs.search.from_centre_to_centre.Goals as goal

pub returns : goal.returns
returns c = plus_within (64 * POINT * 64) (64 * POINT * 64) c.weighted.result c.neg.result c.add.result c.weighted.ensures (c.neg.ensures.size (64 * POINT * 64) c.weighted-2.ensures) c.add.ensures.value
