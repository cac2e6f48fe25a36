use Rattle.staat_asm.specs.Overlaps.{IsOverlapOfPart}
use Rattle.staat_asm.proofs.SearchLemmas.{NoneBelow}
use Rattle.staat_asm.proofs.search.search_from.Given as goal

abbrev pub invariant-loop-i : goal.invariant-loop-i
invariant-loop-i g l = NoneBelow (IsOverlapOfPart l.product l.a) (λ arc. arc.i) l.i
