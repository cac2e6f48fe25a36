use Rattle.std.proofs.Common.{◌∙◌, ap, sym}
use Rattle.std.specs.Int.{w128}
use Rattle.std.proofs.lemmas.Int.{to_z-of_z}
use Rattle.staat_vec.specs.Vectors.{cross, dot}
use Rattle.staat_vec.proofs.VecRing.{dot_comm}
use Rattle.staat_vec.proofs.VectorLaws.{det_dot}
use Rattle.staat_ring.proofs.keys.Dial.key.Goals as goal

pub is_opposite-turned-requires-clause-across : goal.is_opposite-turned-requires-clause-across
is_opposite-turned-requires-clause-across c =
    to_z-of_z w128 c.dot-across.result (record { sfits = c.dot-across.type_inv }) ∙ c.dot-across.ensures ∙ ap (dot c.args.h) c.requires.across ∙ dot_comm c.args.h (cross c.args.self.now.g c.args.self.now.axis)
    ∙ sym (det_dot c.args.self.now.g c.args.self.now.axis c.args.h)
