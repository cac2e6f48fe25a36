use Rattle.std.proofs.Common.{arith, sym, ◌∙◌}
use Rattle.staat_mesh.specs.Counts.{IsPaired, numbered}
use Rattle.staat_mesh.specs.Edges.{edges}
use Rattle.staat_mesh.proofs.PolygonLemmas.{All-next}
use Rattle.staat_mesh.proofs.EdgeLemmas.{length-numbered-edges}
use Rattle.staat_mesh.proofs.edges.open_corner.Goals as goal
use Rattle.staat_mesh.proofs.edges.open_corner.Goals.{else-from-to-via-then-from-to+else-between-ne2, else-from-to-via-else-from-to}
use Rattle.staat_vec.proofs.ListLaws.{All-taken}

pub loop-corner-preserved : goal.loop-corner-preserved
loop-corner-preserved c =
    let paired : IsPaired c.args.table.now c.edge_at-from.result = elim c.else-from-to.branch [
      | else-from-to-via-then-from-to+else-between-ne2 w ↦ λ _. sym w.between.ensures ∙ w.if-between-ne2.false
      | else-from-to-via-else-from-to w ↦ λ ne. absurd (ne w.if-from-to.false)
    ] in
    All-next (IsPaired c.args.table.now) (edges (numbered c.args.numbers.now c.args.face.now)) c.loop-corner.corner _ c.loop-corner.invariant c.edge_at-from.ensures.edge paired

pub returns-clause-paired : goal.returns-clause-paired
returns-clause-paired c = All-taken (IsPaired c.args.table.now) (edges (numbered c.args.numbers.now c.args.face.now)) c.loop-corner.corner (omega (arith, c.loop-corner-test.false, length-numbered-edges c.args.numbers.now c.args.face.now)) c.loop-corner.invariant
