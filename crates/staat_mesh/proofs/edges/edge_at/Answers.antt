use Rattle.std.proofs.Common.{◌<◌, inl, inr, arith, length}
use Rattle.staat_mesh.proofs.EdgeLemmas.{IsNext, numbered-edge}
use Rattle.staat_mesh.proofs.edges.edge_at.Goals as goal
use Rattle.staat_mesh.proofs.edges.edge_at.Goals.{then-corner-face, else-corner-face}

pub returns-clause-edge : goal.returns-clause-edge
returns-clause-edge c =
    let face = c.args.face.now in
    let corner = c.args.corner in
    let next = c.if-corner-face.next in
    let is : IsNext (length face) corner next = elim c.if-corner-face.branch [
      | then-corner-face w ↦ inl (w.if-corner-face.true, w.next-is)
      | else-corner-face w ↦ inr (w.if-corner-face.false, w.next-is)
    ] in
    let within : next < length face = elim is [ inl h ↦ omega (arith, h.0, h.1) | inr h ↦ omega (arith, h.1, c.requires.corner) ] in
    numbered-edge c.args.numbers.now face corner next c.requires.corner within is
