use Rattle.std.proofs.Common.{◌≡◌, [], ◌∷◌}
use Rattle.staat_input.specs.Pieces.{IsPieceOf}
use Rattle.staat_input.specs.Taking.{TakesFiles}
use Rattle.staat_input.proofs.TakingLemmas.{failed}
use Rattle.staat_input.proofs.read.read_piece.Goals as goal

pub returns-in_err-piece : goal.returns-in_err-piece
returns-in_err-piece g c =
    let name = c.args.name.now in
    failed (TakesFiles (λ files. IsPieceOf files c.args.digits name) (name ∷ []) (λ long. long ≡ name)
    (g.H.Shelf.told c.args.shelf.now) (g.H.Shelf.told c.read_drawn.new.shelf)) c.in_err-piece.field-0.0
    c.from_residual.result c.in_err-piece.ensures.takes c.from_residual.ensures.1

pub returns : goal.returns
returns g c =
    let takes = c.in_ok-piece.ensures.takes in
    record { holds = takes.holds; count = takes.count; opens = takes.opens; found = takes.found; cause = tt; named = tt }
