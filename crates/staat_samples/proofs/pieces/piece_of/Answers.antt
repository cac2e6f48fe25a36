use Rattle.std.proofs.Common.{subst, sym, rules}
use Rattle.staat_model.specs.Pieces.{IsPiece}
use Rattle.staat_samples.proofs.HullLemmas.{no_hull}
use Rattle.staat_samples.proofs.pieces.piece_of.Goals as goal

pub returns-then-not-are_a_piece : goal.returns-then-not-are_a_piece
returns-then-not-are_a_piece c =
    no_hull _ _ c.in_order-points.ensures (λ piece.
    let told = c.if-not-are_a_piece.ensures.1 (subst IsPiece (sym c.as_slice.ensures.value) piece) in
    absurd (search rules))
