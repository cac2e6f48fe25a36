use Rattle.std.proofs.Common.{◌∙◌, List, subst, sym, true≢false}
use Rattle.std.proofs.lemmas.List.Elements.{All-more}
use Rattle.staat_vec.proofs.LoopAnswers.{none_has, one_has}
use Rattle.staat_cells.specs.declared.half_spaces.HalfSpace.{HalfSpace}
use Rattle.staat_cells.specs.HalfSpaces.{AreAmong}
use Rattle.staat_cells.proofs.half_spaces.any_wider.Goals as goal

pub returns-then-are_among : goal.returns-then-are_among
returns-then-are_among c =
    one_has (λ wider. AreAmong wider c.args.cone.now) c.args.cones.now c.loop-wider.wider-index c.wider-item.result c.loop-wider-test.true
    (subst (λ (l : List HalfSpace). AreAmong l c.args.cone.now) (c.as_slice.ensures ∙ c.wider-item.is)
    (c.are_among.ensures.0 c.if-are_among.true))

pub loop-wider-preserved : goal.loop-wider-preserved
loop-wider-preserved c =
    All-more (λ wider. AreAmong wider c.args.cone.now → ⊥) c.args.cones.now c.loop-wider.wider-index c.wider-item.result
    c.loop-wider-test.true c.loop-wider.invariant
    (λ among. true≢false (sym (c.are_among.ensures.1 (subst (λ (l : List HalfSpace). AreAmong l c.args.cone.now)
    (sym (c.as_slice.ensures ∙ c.wider-item.is)) among)) ∙ c.if-are_among.false))

pub returns : goal.returns
returns c =
    none_has (λ wider. AreAmong wider c.args.cone.now) c.args.cones.now c.loop-wider.wider-index c.loop-wider-test.false
    c.loop-wider.invariant
