use Rattle.std.proofs.Common.{◌∷◌, [], ◌∙◌, subst}
use Rattle.staat_samples.specs.Hulls.{IsHullAnswer}
use Rattle.staat_samples.proofs.pieces.boxed.Goals as goal

pub returns : goal.returns
returns c =
    subst (λ points. IsHullAnswer points c.piece_of.result)
    (c.in_ok-points.ensures.items ∙ (λ i.
    c.args.low ∷ c.corner.ensures i ∷ c.corner-2.ensures i ∷ c.corner-3.ensures i ∷ c.corner-4.ensures i ∷
    c.corner-5.ensures i ∷ c.corner-6.ensures i ∷ c.args.high ∷ []))
    c.piece_of.ensures
