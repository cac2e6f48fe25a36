use Rattle.std.proofs.Common.{arith, ◌<◌, length}
use Rattle.staat_asm.specs.Overlaps.{IsOverlap, IsOverlapOfPart}
use Rattle.staat_asm.proofs.SearchLemmas.{none_next}
use Rattle.staat_asm.proofs.search.search.Goals as goal
use Rattle.staat_model.proofs.PlanLemmas.{part_within}

pub returns : goal.returns
returns g c = λ arc p.
    let h = p.1 in
    let lt : arc.a < length c.args.product.now = part_within c.args.product.now arc.a arc.i h.p h.p_is in
    c.loop-a.invariant arc p (omega (arith, lt, c.parts-a-end.ensures.count, c.loop-a-test.false))

pub loop-a-preserved : goal.loop-a-preserved
loop-a-preserved g c =
    none_next (IsOverlap c.args.product.now) (IsOverlapOfPart c.args.product.now c.loop-a.a) (λ arc. arc.a) c.loop-a.a c.loop-a.invariant (λ arc p e. (p, e)) c.in_ok-search_from.ensures
