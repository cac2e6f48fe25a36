use Rattle.staat_asm.specs.Overlaps.{IsOverlapOfPiece}
use Rattle.staat_asm.proofs.SearchLemmas.{NoneBelow}
use Rattle.staat_asm.proofs.search.search_behind.Given as goal

abbrev pub invariant-loop-b : goal.invariant-loop-b
invariant-loop-b g l = NoneBelow (IsOverlapOfPiece l.product l.a l.i) (λ arc. arc.b) l.b
