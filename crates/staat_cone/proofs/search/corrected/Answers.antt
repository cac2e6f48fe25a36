use Rattle.std.proofs.Common.{◌*◌, arith}
use Rattle.std.proofs.lemmas.Int.{ints}
use Rattle.staat_vec.specs.declared.vector.TheConstants.{DIFF, EDGE}
use Rattle.staat_vec.proofs.Bounds.{IsWithin-wider}
use Rattle.staat_cone.specs.declared.search.TheConstants.{STEP}
use Rattle.staat_cone.proofs.SearchLemmas.{multiple_within, plus_within}
use Rattle.staat_cone.proofs.search.corrected.Goals as goal

pub add-requires-clause-b : goal.add-requires-clause-b
add-requires-clause-b c = IsWithin-wider (DIFF * 4096) EDGE c.multiple.result (omega arith) (multiple_within c.args.v c.multiple.result _ c.multiple.ensures DIFF 4096 c.requires.difference (omega (arith, ints)))

pub returns : goal.returns
returns c bound h = plus_within bound STEP c.args.n c.multiple.result c.add.result h (IsWithin-wider (DIFF * 4096) STEP c.multiple.result (omega arith) (multiple_within c.args.v c.multiple.result _ c.multiple.ensures DIFF 4096 c.requires.difference (omega (arith, ints)))) c.add.ensures.value
