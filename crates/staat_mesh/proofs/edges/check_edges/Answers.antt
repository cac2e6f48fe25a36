use Rattle.std.proofs.Common.{ℕ, List, length, ap, subst, arith}
use Rattle.std.specs.Prelude.{All}
use Rattle.staat_mesh.specs.Counts.{IsFirstUnpaired, IsPaired, numbered}
use Rattle.staat_mesh.specs.Edges.{edges}
use Rattle.staat_mesh.specs.Judging.{HasClosedEdges}
use Rattle.staat_mesh.specs.Polygons.{mesh}
use Rattle.staat_mesh.proofs.TableLemmas.{face_closed, face_open, face_there, polygon_there, tabled}
use Rattle.staat_mesh.proofs.PolygonLemmas.{All-next, length-mesh}
use Rattle.staat_mesh.proofs.edges.check_edges.Goals as goal
use Rattle.staat_vec.proofs.Unique.{from_place}
use Rattle.staat_vec.proofs.ListLaws.{All-taken}

pub returns-in-Some : goal.returns-in-Some
returns-in-Some c =
    let raw = c.args.raw.now in
    let numbers = c.in_ok-numbers.numbers.items in
    let table = c.in_ok-table.table in
    let face = c.as_slice-in-loop-number-2.result.now in
    let t = tabled raw c.args.points.now numbers table _ _ _ c.requires.indexed c.requires.used c.requires.number c.as_slice.ensures c.as_slice-2.ensures.value c.as_slice-3.ensures c.in_ok-numbers.ensures c.in_ok-table.ensures in
    let at = face_there raw c.loop-number.number face _ _ c.as_slice-in-loop-number-2.ensures c.face-item.is c.as_slice-face-items.ensures c.loop-number-test.true in
    face_open raw c.args.points.now numbers table t c.loop-number.number c.in-Some.corner face at c.loop-number.invariant
    (subst (λ (ns : List ℕ). IsFirstUnpaired table (edges (numbered ns face)) c.in-Some.corner) c.as_slice-in-loop-number.ensures.value c.in-Some.ensures.paired)

pub loop-number-preserved : goal.loop-number-preserved
loop-number-preserved c =
    let raw = c.args.raw.now in
    let numbers = c.in_ok-numbers.numbers.items in
    let table = c.in_ok-table.table in
    let face = c.as_slice-in-loop-number-2.result.now in
    let t = tabled raw c.args.points.now numbers table _ _ _ c.requires.indexed c.requires.used c.requires.number c.as_slice.ensures c.as_slice-2.ensures.value c.as_slice-3.ensures c.in_ok-numbers.ensures c.in_ok-table.ensures in
    let at = face_there raw c.loop-number.number face _ _ c.as_slice-in-loop-number-2.ensures c.face-item.is c.as_slice-face-items.ensures c.loop-number-test.true in
    All-next (HasClosedEdges (mesh raw)) (mesh raw) c.loop-number.number _ c.loop-number.invariant (polygon_there raw c.loop-number.number face at)
    (face_closed raw c.args.points.now numbers table t face (from_place raw.faces c.loop-number.number face at)
    (subst (λ (ns : List ℕ). All (IsPaired table) (edges (numbered ns face))) c.as_slice-in-loop-number.ensures.value c.in_default.ensures.paired))

pub returns : goal.returns
returns c = All-taken (HasClosedEdges (mesh c.args.raw.now)) (mesh c.args.raw.now) c.loop-number.number (omega (arith, c.loop-number-test.false, ap length c.as_slice-face-items.ensures, length-mesh c.args.raw.now)) c.loop-number.invariant
