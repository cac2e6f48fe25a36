use Rattle.std.proofs.Common.{arith}
use Rattle.staat_mesh.specs.Counts.{numbered}
use Rattle.staat_mesh.specs.Edges.{edges}
use Rattle.staat_mesh.proofs.EdgeLemmas.{front_all, front_more, length-numbered-edges}
use Rattle.staat_mesh.proofs.edges.count_face.Goals as goal

pub loop-corner-preserved : goal.loop-corner-preserved
loop-corner-preserved c =
    front_more _ c.loop-corner.table _ (edges (numbered c.args.numbers.now c.args.face.now)) c.loop-corner.corner _ _ c.edge_at-from.ensures.edge c.add.ensures c.loop-corner.invariant

pub returns : goal.returns
returns c =
    front_all _ c.loop-corner.table (edges (numbered c.args.numbers.now c.args.face.now)) c.loop-corner.corner (omega (arith, c.loop-corner-test.false, length-numbered-edges c.args.numbers.now c.args.face.now)) c.loop-corner.invariant
