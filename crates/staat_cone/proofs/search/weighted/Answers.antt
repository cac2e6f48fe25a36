use Rattle.std.proofs.Common.{◌*◌, arith}
use Rattle.std.proofs.lemmas.Int.{ints}
use Rattle.staat_vec.specs.declared.vector.TheConstants.{POINT}
use Rattle.staat_cone.proofs.SearchLemmas.{multiple_within}
use Rattle.staat_cone.proofs.search.weighted.Goals as goal

pub returns : goal.returns
returns c = multiple_within c.sum_of.result c.multiple.result _ c.multiple.ensures (64 * POINT) 64 c.sum_of.ensures (omega (arith, ints))
