use Rattle.std.proofs.Common.{◌∙◌, ap, refl, sym}
use Rattle.std.specs.Prelude.{Some}
use Rattle.staat_model.specs.Certificates.{IsListed}
use Rattle.staat_model.specs.Planes.{crossings, vertices}
use Rattle.staat_pairs.proofs.DropLemmas.{apart_at}
use Rattle.staat_check.proofs.VertexSearch.{asked_end, asked_next, vertices_at}
use Rattle.staat_check.proofs.covered.are_vertices_placed.Goals as goal
use Rattle.staat_vec.proofs.ListLaws.{drop_end, place_is}

pub are_crossings_placed-requires-clause-apart : goal.are_crossings_placed-requires-clause-apart
are_crossings_placed-requires-clause-apart c = apart_at c.args.planes.now c.planes_from.result.now c.loop-k.k _ (place_is c.args.planes.now c.loop-k.k c.index-planes-k.result c.loop-k-test.true c.index-planes-k.is ∙ ap Some (sym c.vector.ensures.is)) c.planes_from.ensures c.requires.apart

pub loop-k-preserved : goal.loop-k-preserved
loop-k-preserved c =
    asked_next (IsListed c.args.version c.args.dirs.now) (vertices c.args.planes.now) _ (crossings _ c.planes_from.result.now) _
    (vertices_at _ c.args.planes.now c.planes_from.result.now c.loop-k.k (place_is c.args.planes.now c.loop-k.k c.index-planes-k.result c.loop-k-test.true c.index-planes-k.is ∙ ap Some (sym c.vector.ensures.is)) c.planes_from.ensures)
    c.loop-k.invariant (c.if-not-are_crossings_placed.ensures refl)

pub returns : goal.returns
returns c = λ yes. asked_end (IsListed c.args.version c.args.dirs.now) (vertices c.args.planes.now) _ (ap vertices (drop_end c.args.planes.now c.loop-k.k c.loop-k-test.false)) c.loop-k.invariant
