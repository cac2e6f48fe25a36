use Rattle.std.proofs.Common.{[], ◌∙◌, ap, sym}
use Rattle.std.specs.Prelude.{Some}
use Rattle.std.proofs.lemmas.Result.{err_from_is_err_and}
use Rattle.staat_vec.proofs.ListLaws.{place_is}
use Rattle.staat_pairs.proofs.DropLemmas.{apart_at}
use Rattle.staat_pairs.proofs.DirectionLemmas.{directions_are, plane_more}
use Rattle.staat_pairs.proofs.vertices.directions.Goals as goal

pub push_crossings-requires-clause-apart : goal.push_crossings-requires-clause-apart
push_crossings-requires-clause-apart c = apart_at c.args.planes.now c.planes_from.result.now c.loop-k.k _ (place_is c.args.planes.now c.loop-k.k c.index-planes-k.result c.loop-k-test.true c.index-planes-k.is ∙ ap Some (sym c.vector.ensures.is)) c.planes_from.ensures c.requires

pub loop-k-preserved : goal.loop-k-preserved
loop-k-preserved c = plane_more c.args.version _ c.args.planes.now c.planes_from.result.now [] c.loop-k.taken.items c.push_crossings.new.taken.items c.loop-k.k (place_is c.args.planes.now c.loop-k.k c.index-planes-k.result c.loop-k-test.true c.index-planes-k.is ∙ ap Some (sym c.vector.ensures.is)) c.planes_from.ensures c.loop-k.invariant c.in_ok-push_crossings.ensures

pub returns : goal.returns
returns c = directions_are c.args.version c.args.planes.now c.loop-k.taken.items c.in_order.result.items c.loop-k.k c.loop-k-test.false c.loop-k.invariant c.in_order.ensures

pub returns-in_err-push_crossings : goal.returns-in_err-push_crossings
returns-in_err-push_crossings c =
    let p = err_from_is_err_and c.from_residual.result c.from_residual.ensures.1 in
    rw p.1 tt
