use Rattle.std.proofs.Common.{Any, List, subst}
use Rattle.std.proofs.lemmas.Result.{on_ok_weaker}
use Rattle.staat_cells.specs.declared.half_spaces.HalfSpace.{HalfSpace}
use Rattle.staat_cells.specs.HalfSpaces.{AreAmong, AreInside}
use Rattle.staat_cells.proofs.Growing.{any_pushed, cone_left_out}
use Rattle.staat_cells.proofs.half_spaces.push_cone.Goals as goal

pub returns-then-any_wider : goal.returns-then-any_wider
returns-then-any_wider c = λ signs. cone_left_out signs c.args.cones.now.items c.args.cone.now
    (subst (λ (l : List (List HalfSpace)). Any (λ wider. AreAmong wider c.args.cone.now) l) c.deref.ensures.value
    (c.any_wider.ensures.0 c.if-any_wider.true))

pub returns : goal.returns
returns c = on_ok_weaker c.push_copy.result
    (λ is signs. any_pushed (AreInside signs) c.args.cones.now.items c.push_copy.new.cones.items c.args.cone.now is)
    c.push_copy.ensures
