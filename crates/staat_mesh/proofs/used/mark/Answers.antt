use Rattle.std.proofs.Common.{refl, arith}
use Rattle.staat_mesh.proofs.MarkLemmas.{front_none, front_more, front_all}
use Rattle.staat_mesh.proofs.used.mark.Goals as goal

pub loop-vertex-init : goal.loop-vertex-init
loop-vertex-init c = front_none c.args.marks.now c.args.face.now

pub loop-vertex-preserved : goal.loop-vertex-preserved
loop-vertex-preserved c =
    let i = c.loop-vertex.vertex-index in
    front_more _ c.args.face.now i _ _ c.loop-vertex-test.true refl (omega (arith, c.requires i 0 c.loop-vertex-test.true)) c.loop-vertex.invariant

pub returns : goal.returns
returns c = front_all _ c.args.face.now _ _ c.loop-vertex-test.false c.loop-vertex.invariant
