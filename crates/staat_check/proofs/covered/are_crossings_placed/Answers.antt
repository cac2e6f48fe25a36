use Rattle.std.proofs.Common.{◌∙◌, ◌∷◌, [], ap, refl, sym}
use Rattle.std.specs.Prelude.{Some}
use Rattle.staat_vec.specs.Vectors.{negative}
use Rattle.staat_vec.proofs.ListLaws.{drop_end, place_is}
use Rattle.staat_model.specs.Certificates.{IsListed}
use Rattle.staat_model.specs.Planes.{crossings}
use Rattle.staat_check.proofs.VertexSearch.{asked_end, asked_next, both_known, crossings_at}
use Rattle.staat_check.proofs.covered.are_crossings_placed.Goals as goal

pub loop-h-preserved : goal.loop-h-preserved
loop-h-preserved c =
    let v = c.crossing.result in
    asked_next (IsListed c.args.version c.args.dirs.now) (crossings c.args.g c.args.hs.now) _ (v ∷ negative v ∷ []) _
    (crossings_at c.args.g _ c.args.hs.now c.loop-h.h-index v (place_is c.args.hs.now c.loop-h.h-index c.h-item.result c.loop-h-test.true c.h-item.is ∙ ap Some (sym c.vector.ensures.is)) c.crossing.ensures.value)
    c.loop-h.invariant (both_known (IsListed c.args.version c.args.dirs.now) v (negative v) (c.if-not-are_both_placed.ensures.one refl) (c.if-not-are_both_placed.ensures.opposite refl))

pub returns : goal.returns
returns c = λ yes. asked_end (IsListed c.args.version c.args.dirs.now) (crossings c.args.g c.args.hs.now) _ (ap (crossings c.args.g) (drop_end c.args.hs.now c.loop-h.h-index c.loop-h-test.false)) c.loop-h.invariant
