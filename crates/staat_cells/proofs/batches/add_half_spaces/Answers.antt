use Rattle.std.proofs.Common.{get_or}
use Rattle.std.proofs.lemmas.List.{get_or_default}
use Rattle.staat_vec.specs.declared.vector.Sign.TheVariants.{Neg}
use Rattle.staat_cells.specs.declared.half_spaces.HalfSpace.{HalfSpace}
use Rattle.staat_cells.proofs.BatchCones.{all_half_spaces, more_half_spaces, no_half_spaces}
use Rattle.staat_cells.proofs.batches.add_half_spaces.Goals as goal

pub loop-half_space-init : goal.loop-half_space-init
loop-half_space-init c = no_half_spaces c.args.tests.now.items c.args.cone.now c.args.j

pub loop-half_space-preserved : goal.loop-half_space-preserved
loop-half_space-preserved c =
    let cone = c.args.cone.now in
    let i = c.loop-half_space.half_space-index in
    let none : HalfSpace = record { plane = 0; sign = Neg } in
    let x : HalfSpace = get_or cone i none in
    more_half_spaces cone x i c.args.j c.args.tests.now.items c.loop-half_space.tests.items c.add_half_space.new.tests.items
    c.loop-half_space-test.true (get_or_default cone i none x c.loop-half_space-test.true) c.loop-half_space.invariant
    c.in_ok-add_half_space.ensures

pub returns : goal.returns
returns c =
    all_half_spaces c.args.cone.now c.loop-half_space.half_space-index c.args.j c.args.tests.now.items c.loop-half_space.tests.items
    c.loop-half_space-test.false c.loop-half_space.invariant
