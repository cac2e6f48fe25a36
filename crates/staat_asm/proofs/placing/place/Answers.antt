use Rattle.std.proofs.Common.{◌≡◌, refl, sym, ap, ◌∙◌, subst}
use Rattle.staat_model.specs.Pieces.{IsPiece}
use Rattle.staat_asm.specs.Placing.{IsPlacedFar, shifted}
use Rattle.staat_asm.proofs.PlacingLemmas.{placed_there, shifted_piece, shifted_within}
use Rattle.staat_asm.proofs.placing.place.Goals as goal

pub returns-then-is_same : goal.returns-then-is_same
returns-then-is_same c = placed_there c.args.at c.args.p c.points-points.ensures.piece (c.if-is_same.ensures.0 refl)

pub returns-then-is_placed_far : goal.returns-then-is_placed_far
returns-then-is_placed_far c = subst (IsPlacedFar c.args.at) c.points.ensures.points (c.if-is_placed_far.ensures.0 refl)

pub seal-requires : goal.seal-requires
seal-requires c =
    let same : c.from_vec.result ≡ shifted c.args.at c.args.p = c.from_vec.ensures ∙ c.shift-points.ensures ∙ ap (shifted c.args.at) (c.into_vec.ensures ∙ c.into_points.ensures.points) in
    subst IsPiece (sym same) (shifted_piece c.args.at c.args.p c.into_points.ensures.piece (shifted_within c.args.at c.args.p c.points.result.now c.if-is_placed_far.ensures c.points.ensures.points))

pub returns : goal.returns
returns c = record {
  is = c.seal.ensures ∙ c.from_vec.ensures ∙ c.shift-points.ensures ∙ ap (shifted c.args.at) (c.into_vec.ensures ∙ c.into_points.ensures.points);
  within = shifted_within c.args.at c.args.p c.points.result.now c.if-is_placed_far.ensures c.points.ensures.points;
}
