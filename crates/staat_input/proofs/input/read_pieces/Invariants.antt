use Rattle.std.proofs.Common.{◌≡◌, ◌+◌, All, length, map, take}
use Rattle.staat_model.specs.Pieces.{IsPiece}
use Rattle.staat_input.specs.Drawing.{SketchGrows, solid_of}
use Rattle.staat_input.specs.Moved.{IsMovedPieceOf}
use Rattle.staat_input.proofs.TakingLemmas.{HasTaken}
use Rattle.staat_input.proofs.input.read_pieces.Given as goal

abbrev pub invariant-loop-name : goal.invariant-loop-name
invariant-loop-name g l = record {
  taken : HasTaken (λ files. IsMovedPieceOf files l.digits l.at) l.names l.name-index l.pieces.items (take l.name-index l.names) (g.H.Shelf.told l.fn.shelf) (g.H.Shelf.told l.shelf);
  pieces : All IsPiece l.pieces.items;
  each : length l.pieces.items ≡ l.name-index;
  grows : SketchGrows (λ files. map (solid_of files l.digits l.part l.at) (take l.name-index l.names)) (l.part + 1) l.name-index (g.H.Shelf.told l.shelf) l.fn.sketch l.sketch;
}
