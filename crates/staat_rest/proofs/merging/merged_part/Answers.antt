use Rattle.std.proofs.Common.{◌≡◌, ◌∙◌, ◌+◌, List, ap, map, sym, subst, take}
use Rattle.std.specs.Prelude.{Some}
use Rattle.staat_rest.proofs.OriginSteps.{copies_more}
use Rattle.staat_rest.proofs.merging.merged_part.Goals as goal

pub loop-origin-preserved : goal.loop-origin-preserved
loop-origin-preserved c =
    copies_more c.args.parts.now c.args.origins.now c.loop-origin.origin-index _ c.loop-origin.pieces.items c.in_ok-piece_of.field-0 c.loop-origin-test.true c.in_ok-piece_of.ensures c.loop-origin.invariant
    ∙ ap (map Some) (sym c.in_ok-push.ensures.items)
