use Rattle.std.proofs.Common.{Contains}
use Rattle.std.proofs.lemmas.List.Elements.{All-more}
use Rattle.staat_vec.specs.declared.vector.Sign.TheVariants.{Neg}
use Rattle.staat_vec.proofs.LoopAnswers.{all_kept}
use Rattle.staat_cells.proofs.half_spaces.are_among.Goals as goal

pub loop-half_space-preserved : goal.loop-half_space-preserved
loop-half_space-preserved c =
    All-more (Contains c.args.other.now) c.args.cone.now c.loop-half_space.half_space-index (record { plane = 0; sign = Neg })
    c.loop-half_space-test.true c.loop-half_space.invariant (c.has_half_space.ensures.0 c.if-not-has_half_space.false)

pub returns : goal.returns
returns c =
    all_kept (Contains c.args.other.now) c.args.cone.now c.loop-half_space.half_space-index c.loop-half_space-test.false
    c.loop-half_space.invariant
