use Rattle.std.proofs.Common.{◌∙◌, arith}
use Rattle.std.specs.Int.{w128}
use Rattle.std.proofs.lemmas.Int.{to_z-of_z}
use Rattle.staat_vec.specs.declared.vector.TheConstants.{NORMAL, POINT}
use Rattle.staat_vec.proofs.Bounds.{IsWithin-wider}
use Rattle.staat_vec.proofs.VecRing.{dot_comm}
use Rattle.staat_motion.proofs.spans.point_span.Goals as goal

pub dot-place-requires : goal.dot-place-requires
dot-place-requires c = IsWithin-wider POINT NORMAL c.args.point (omega arith) c.requires.point

pub returns-clause-low : goal.returns-clause-low
returns-clause-low c = to_z-of_z w128 c.dot-place.result (record { sfits = c.dot-place.type_inv }) ∙ c.dot-place.ensures ∙ dot_comm c.args.point c.args.course.now

pub returns-clause-high : goal.returns-clause-high
returns-clause-high c = to_z-of_z w128 c.dot-place.result (record { sfits = c.dot-place.type_inv }) ∙ c.dot-place.ensures ∙ dot_comm c.args.point c.args.course.now
