use Rattle.std.proofs.Common.{take}
use Rattle.staat_cone.specs.Pairs.{Adds, FromSome, IsEdge}
use Rattle.staat_cone.proofs.edges.add_all_edges.Given as goal

abbrev pub invariant-loop-h : goal.invariant-loop-h
invariant-loop-h l = Adds (FromSome (λ h. IsEdge l.vs h l.g) (take l.h-index l.vs)) l.fn.out.items l.out.items
