use Rattle.std.proofs.Common.{◌++◌, ◌∷◌, [], ap, sym, ◌∙◌}
use Rattle.std.proofs.Common.{get_or}
use Rattle.staat_mesh.proofs.PolygonLemmas.{polygon_more}
use Rattle.staat_mesh.proofs.faces.trace.Goals as goal

pub loop-vertex-preserved : goal.loop-vertex-preserved
loop-vertex-preserved c =
    let face = c.args.face.now in
    let positions = c.args.vertices.now in
    let i = c.loop-vertex.vertex-index in
    let d = c.index-vertices-vertex.result in
    c.in_ok-push.ensures.items
    ∙ ap (λ p. c.loop-vertex.corners.items ++ p ∷ []) (c.point.ensures ∙ c.index-vertices-vertex.is)
    ∙ ap (λ ps. ps ++ get_or positions (get_or face i 0) d ∷ []) c.loop-vertex.invariant
    ∙ sym (polygon_more positions face i d c.loop-vertex-test.true (c.requires i 0 c.loop-vertex-test.true))
