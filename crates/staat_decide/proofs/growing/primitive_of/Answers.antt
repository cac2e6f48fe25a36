use Rattle.staat_vec.specs.declared.vector.TheConstants.{DIRECTION}
use Rattle.staat_decide.proofs.growing.primitive_of.Goals as goal

pub returns : goal.returns
returns c = c.primitive.ensures.size DIRECTION c.requires
