use Rattle.staat_asm.specs.Overlaps.{IsOverlapWithPart}
use Rattle.staat_asm.proofs.SearchLemmas.{NoneBelow}
use Rattle.staat_asm.proofs.search.search_part.Given as goal

abbrev pub invariant-loop-j : goal.invariant-loop-j
invariant-loop-j g l = NoneBelow (IsOverlapWithPart l.product l.a l.i l.b) (λ arc. arc.j) l.j
