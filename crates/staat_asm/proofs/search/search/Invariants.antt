use Rattle.staat_asm.specs.Overlaps.{IsOverlap}
use Rattle.staat_asm.proofs.SearchLemmas.{NoneBelow}
use Rattle.staat_asm.proofs.search.search.Given as goal

abbrev pub invariant-loop-a : goal.invariant-loop-a
invariant-loop-a g l = NoneBelow (IsOverlap l.product) (λ arc. arc.a) l.a
