use Rattle.std.proofs.Common.{◌∙◌, ◌<◌, subst, sym}
use Rattle.staat_model.specs.Assemblies.{piece_count}
use Rattle.staat_model.specs.Certificates.{IsAcrossFrom, IsAcrossFromPiece}
use Rattle.staat_model.proofs.ArcOrder.{less_by_i}
use Rattle.staat_check.proofs.MissingLemmas.{all_below, all_next, least_here}
use Rattle.staat_check.proofs.split.Parting.missing_from.Goals as goal

pub missing_from_piece-requires-clause-piece : goal.missing_from_piece-requires-clause-piece
missing_from_piece-requires-clause-piece c =
    subst (λ n. c.loop-i.i < n) c.pieces-i-end.ensures.count c.loop-i-test.true

pub returns-in-Some : goal.returns-in-Some
returns-in-Some c = least_here (IsAcrossFrom c.args.self.now.assembly.now c.args.self.now.side c.args.self.now.rest c.args.a) c.args.self.now.seps.now
    (λ arc. arc.i) c.loop-i.i c.in-Some.arc c.loop-i.invariant
    (λ y p q lt. less_by_i c.in-Some.arc y (p.1 ∙ sym q.1) lt) c.in-Some.ensures

pub loop-i-preserved : goal.loop-i-preserved
loop-i-preserved c = all_next (IsAcrossFrom c.args.self.now.assembly.now c.args.self.now.side c.args.self.now.rest c.args.a)
    (IsAcrossFromPiece c.args.self.now.assembly.now c.args.self.now.side c.args.self.now.rest c.args.a c.loop-i.i) c.args.self.now.seps.now (λ arc. arc.i)
    c.loop-i.i c.loop-i.invariant (λ arc p e. (p, e)) c.in_default.ensures

pub returns : goal.returns
returns c =
    let parts = c.args.self.now.assembly.now in
    all_below (IsAcrossFrom parts c.args.self.now.side c.args.self.now.rest c.args.a) c.args.self.now.seps.now (λ arc. arc.i) c.loop-i.i
    c.pieces-i-end.result c.loop-i.invariant c.loop-i-test.false
    (λ arc p. subst (λ n. arc.i < n) (sym c.pieces-i-end.ensures.count)
    (subst (λ a. arc.i < piece_count parts a) p.1 p.0.i_in))
