use Rattle.std.proofs.Common.{◌∙◌, ap, sym}
use Rattle.std.specs.Prelude.{Some}
use Rattle.staat_pairs.proofs.DropLemmas.{apart_at}
use Rattle.staat_model.specs.Planes.{crossings, vertices}
use Rattle.staat_check.specs.Known.{IsKnown}
use Rattle.staat_check.proofs.VertexSearch.{asked_end, asked_found, asked_next, vertices_at}
use Rattle.staat_check.proofs.vertices.first_unknown.Goals as goal
use Rattle.staat_vec.proofs.ListLaws.{drop_end, place_is}

pub unknown_crossing-requires-clause-apart : goal.unknown_crossing-requires-clause-apart
unknown_crossing-requires-clause-apart c = apart_at c.args.planes.now c.planes_from.result.now c.loop-k.k _ (place_is c.args.planes.now c.loop-k.k c.index-planes-k.result c.loop-k-test.true c.index-planes-k.is ∙ ap Some (sym c.vector.ensures.is)) c.planes_from.ensures c.requires.apart

pub returns-in-Some : goal.returns-in-Some
returns-in-Some c =
    asked_found (IsKnown c.args.version c.args.listed.now) (vertices c.args.planes.now) _ (crossings _ c.planes_from.result.now) _
    (vertices_at _ c.args.planes.now c.planes_from.result.now c.loop-k.k (place_is c.args.planes.now c.loop-k.k c.index-planes-k.result c.loop-k-test.true c.index-planes-k.is ∙ ap Some (sym c.vector.ensures.is)) c.planes_from.ensures)
    c.loop-k.invariant c.in-Some.v c.in-Some.ensures

pub loop-k-preserved : goal.loop-k-preserved
loop-k-preserved c =
    asked_next (IsKnown c.args.version c.args.listed.now) (vertices c.args.planes.now) _ (crossings _ c.planes_from.result.now) _
    (vertices_at _ c.args.planes.now c.planes_from.result.now c.loop-k.k (place_is c.args.planes.now c.loop-k.k c.index-planes-k.result c.loop-k-test.true c.index-planes-k.is ∙ ap Some (sym c.vector.ensures.is)) c.planes_from.ensures)
    c.loop-k.invariant c.in-None.ensures

pub returns : goal.returns
returns c = asked_end (IsKnown c.args.version c.args.listed.now) (vertices c.args.planes.now) _ (ap vertices (drop_end c.args.planes.now c.loop-k.k c.loop-k-test.false)) c.loop-k.invariant
