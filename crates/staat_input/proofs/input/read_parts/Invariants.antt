use Rattle.std.proofs.Common.{◌≡◌, take, length}
use Rattle.std.specs.Prelude.{sum_by}
use Rattle.staat_input.specs.Opened.{piece_files}
use Rattle.staat_input.specs.Drawing.{SketchGrows, solids_of}
use Rattle.staat_input.specs.Inputs.{IsPartOf}
use Rattle.staat_input.specs.Shapes.{AreRead}
use Rattle.staat_input.proofs.TakingLemmas.{HasTaken}
use Rattle.staat_input.proofs.input.read_parts.Given as goal

abbrev pub invariant-loop-named : goal.invariant-loop-named
invariant-loop-named g l = record {
  taken : HasTaken (λ files. IsPartOf files l.digits) l.listing l.named-index l.parts.items (piece_files (take l.named-index l.listing)) (g.H.Shelf.told l.fn.shelf) (g.H.Shelf.told l.shelf);
  read : AreRead (take l.named-index l.listing) l.parts.items;
  number : l.number ≡ l.named-index;
  grows : SketchGrows (λ files. solids_of files l.digits (take l.named-index l.listing)) (length l.listing) (sum_by (λ part. length part.pieces) (take l.named-index l.listing)) (g.H.Shelf.told l.shelf) l.fn.sketch l.sketch;
}
