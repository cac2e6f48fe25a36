use Rattle.std.proofs.Common.{◌<◌, arith, subst}
use Rattle.staat_model.specs.Assemblies.{piece_count}
use Rattle.staat_asm.specs.Overlaps.{IsOverlapOfPart, IsOverlapOfPiece}
use Rattle.staat_asm.proofs.SearchLemmas.{none_next}
use Rattle.staat_asm.proofs.search.search_from.Goals as goal
use Rattle.staat_model.proofs.PlanLemmas.{piece_within}

pub returns : goal.returns
returns g c = λ arc p.
    let h = p.0.1 in
    let within : arc.i < piece_count c.args.product.now c.args.a = subst (λ a. arc.i < piece_count c.args.product.now a) p.1 (piece_within c.args.product.now arc.a arc.i h.p h.p_is) in
    c.loop-i.invariant arc p (omega (arith, within, c.pieces-i-end.ensures.count, c.loop-i-test.false))

pub loop-i-preserved : goal.loop-i-preserved
loop-i-preserved g c =
    none_next (IsOverlapOfPart c.args.product.now c.args.a) (IsOverlapOfPiece c.args.product.now c.args.a c.loop-i.i) (λ arc. arc.i) c.loop-i.i c.loop-i.invariant (λ arc p e. (p, e)) c.in_ok-search_behind.ensures
