use Rattle.std.proofs.Common.{arith, ◌<◌, length}
use Rattle.staat_asm.specs.Overlaps.{IsOverlapOfPiece, IsOverlapWithPart}
use Rattle.staat_asm.proofs.SearchLemmas.{none_next}
use Rattle.staat_asm.proofs.search.search_behind.Goals as goal
use Rattle.staat_model.proofs.PlanLemmas.{part_within}

pub returns : goal.returns
returns g c = λ arc p.
    let h = p.0.0.1 in
    let lt : arc.b < length c.args.product.now = part_within c.args.product.now arc.b arc.j h.q h.q_is in
    c.loop-b.invariant arc p (omega (arith, lt, c.parts-end.ensures.count, c.loop-b-test.false))

pub loop-b-preserved : goal.loop-b-preserved
loop-b-preserved g c =
    none_next (IsOverlapOfPiece c.args.product.now c.args.a c.args.i) (IsOverlapWithPart c.args.product.now c.args.a c.args.i c.loop-b.b) (λ arc. arc.b) c.loop-b.b c.loop-b.invariant (λ arc p e. (p, e)) c.in_ok-search_part.ensures
