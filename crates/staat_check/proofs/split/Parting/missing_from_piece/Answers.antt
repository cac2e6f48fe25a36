use Rattle.std.proofs.Common.{◌∙◌, ◌<◌, subst, sym}
use Rattle.staat_model.specs.Certificates.{IsAcrossFromPiece}
use Rattle.staat_model.proofs.ArcOrder.{less_by_b}
use Rattle.staat_model.proofs.SomePlanes.{part_there}
use Rattle.staat_check.proofs.MissingLemmas.{all_below, least_here}
use Rattle.staat_check.proofs.split.Parting.missing_from_piece.Goals as goal

pub returns-in-loop-b : goal.returns-in-loop-b
returns-in-loop-b c = least_here (IsAcrossFromPiece c.args.self.now.assembly.now c.args.self.now.side c.args.self.now.rest c.args.a c.args.i)
    c.args.self.now.seps.now (λ arc. arc.b) c.loop-b.b c.in-Some.arc c.loop-b.invariant
    (λ y p q lt. less_by_b c.in-Some.arc y (p.0.1 ∙ sym q.0.1) (p.1 ∙ sym q.1) lt) c.in-Some.ensures

pub returns : goal.returns
returns c =
    let parts = c.args.self.now.assembly.now in
    all_below (IsAcrossFromPiece parts c.args.self.now.side c.args.self.now.rest c.args.a c.args.i) c.args.self.now.seps.now (λ arc. arc.b) c.loop-b.b
    c.parts-b-end.result c.loop-b.invariant c.loop-b-test.false
    (λ arc p. subst (λ n. arc.b < n) (sym c.parts-b-end.ensures.count) (part_there parts arc.b arc.j p.0.0.j_in))
