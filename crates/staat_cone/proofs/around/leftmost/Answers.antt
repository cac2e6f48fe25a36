use Rattle.std.proofs.Common.{◌∙◌, ap, get_or, pos, ◌<ℤ◌, subst, sym}
use Rattle.staat_vec.specs.declared.vector.TheConstants.{NORMAL}
use Rattle.staat_vec.specs.Vectors.{IsWithin, cross, dot, origin}
use Rattle.staat_cone.proofs.PairLemmas.{refused}
use Rattle.staat_cone.proofs.ScanLemmas.{leftmost_whole, scanned_start, scanned_moved, scanned_kept}
use Rattle.staat_cone.proofs.around.leftmost.Goals as goal
use Rattle.staat_cone.proofs.around.leftmost.Goals.{then-is_farther, else-is_farther}

pub loop-x-init : goal.loop-x-init
loop-x-init c = scanned_start c.args.vs.now c.args.v c.args.first c.cross_diff-normal.result c.requires.member c.requires.apart c.cross_diff-normal.ensures.value c.cross_diff-normal.ensures.size

pub loop-x-preserved : goal.loop-x-preserved
loop-x-preserved c =
    let vs = c.args.vs.now in
    let v = c.args.v in
    let i = c.loop-x.x-index in
    let old = c.loop-x in
    let new = c.if-is_farther in
    elim c.if-is_farther.branch [
      | then-is_farther w ↦
          let across = w.cross_diff-normal-then-is_farther in
          scanned_moved vs v c.args.first old.best old.normal new.best new.normal i origin c.loop-x-test.true old.invariant (c.is_farther.ensures.0 w.if-is_farther.true) w.best-is
          (w.normal-is ∙ across.ensures.value ∙ ap (λ x. cross x v) (sym w.best-is))
          (subst (IsWithin NORMAL) (sym w.normal-is) across.ensures.size)
      | else-is_farther w ↦
          scanned_kept vs v c.args.first old.best old.normal new.best new.normal i origin c.loop-x-test.true old.invariant
          (refused c.is_farther.result (pos 0 <ℤ dot (get_or vs i origin) old.normal) c.is_farther.ensures w.if-is_farther.false) w.best-is w.normal-is
    ]

pub returns-clause-furthest : goal.returns-clause-furthest
returns-clause-furthest c = leftmost_whole c.args.vs.now c.args.v c.args.first c.loop-x.best c.loop-x.x-index c.loop-x-test.false c.loop-x.invariant.left
