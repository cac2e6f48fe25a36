use Rattle.std.proofs.Common.{inl, inr}
use Rattle.staat_mesh.proofs.StanceLemmas.{bad, border, cut}
use Rattle.staat_mesh.proofs.face.stance_of.Goals as goal
use Rattle.staat_mesh.proofs.face.stance_of.Goals.{else-has_any-via-then-has_any+else-has_any-2, else-has_any-via-else-has_any}

pub returns-then-not-has_all : goal.returns-then-not-has_all
returns-then-not-has_all c = bad _ _ c.in-Some.ensures.plane c.if-not-has_all.ensures

pub returns-then-has_any-2 : goal.returns-then-has_any-2
returns-then-has_any-2 c = cut _ _ _ c.in-Some.ensures.plane c.if-not-has_all.ensures c.if-has_any.ensures c.if-has_any-2.ensures

pub returns-else-has_any : goal.returns-else-has_any
returns-else-has_any c = elim c.else-has_any.branch [
  | else-has_any-via-then-has_any+else-has_any-2 w ↦ border _ _ _ c.in-Some.ensures.plane c.if-not-has_all.ensures (inr w.if-has_any-2.ensures)
  | else-has_any-via-else-has_any w ↦ border _ _ _ c.in-Some.ensures.plane c.if-not-has_all.ensures (inl w.if-has_any.ensures)
]
