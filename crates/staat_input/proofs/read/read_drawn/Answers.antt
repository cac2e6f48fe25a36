use Rattle.std.proofs.Common.{◌≡◌, ◌∙◌, [], ◌∷◌, ℕ, List, Some, ap, subst, sym}
use Rattle.std.specs.Prelude.{is_ok}
use Rattle.staat_edge.specs.Files.{bytes_of}
use Rattle.staat_input.specs.Drawing.{piece_found}
use Rattle.staat_input.specs.Pieces.{IsPieceOf, SaysPiece}
use Rattle.staat_input.specs.Taking.{TakesFiles}
use Rattle.staat_input.specs.Work.{Follows}
use Rattle.staat_input.proofs.InputLemmas.{no_value}
use Rattle.staat_input.proofs.OpenedLemmas.{all_opened}
use Rattle.staat_input.proofs.ReadLemmas.{drawn_failed, found_taken, raw_found}
use Rattle.staat_input.proofs.TakingLemmas.{takes_pure, untaken}
use Rattle.staat_input.proofs.read.read_drawn.Goals as goal

pub returns-in_err-bytes : goal.returns-in_err-bytes
returns-in_err-bytes g c =
    let name = c.args.name.now in
    let before = g.H.Shelf.told c.args.shelf.now in
    let now = g.H.Shelf.told c.read_file.new.shelf in
    let fault = c.in_err-bytes.field-0.0 in
    let read = c.in_err-bytes.ensures in
    let found = c.from_residual.result in
    let is = c.from_residual.ensures.1 in
    record {
      takes = drawn_failed (TakesFiles (λ files. IsPieceOf files c.args.digits name) (name ∷ []) (λ long. long ≡ name) before now) fault found
          (untaken (SaysPiece c.args.digits name) before now name fault read.after read.opens read.refused read.cause) is;
      raw = λ files fit. no_value _ _ found is;
      indexed = no_value _ _ found is;
      counted = no_value _ _ found is;
    }

pub returns : goal.returns
returns g c =
    let name = c.args.name.now in
    let before = g.H.Shelf.told c.args.shelf.now in
    let now = g.H.Shelf.told c.read_file.new.shelf in
    let read = c.in_ok-bytes.ensures in
    let found = piece_found c.drawn_in.result in
    record {
      takes = takes_pure read.after
          (λ files fit. found_taken (SaysPiece c.args.digits name) now files name c.in_ok-bytes.bytes found fit read.whole read.within
          (subst (λ (bytes : List ℕ). Follows (SaysPiece c.args.digits name bytes) found) c.as_slice.ensures c.drawn_in.ensures.says))
          (all_opened (is_ok found) (name ∷ []) before.given now.given read.opens) c.drawn_in.ensures.cause;
      raw = λ files fit. raw_found c.args.digits (bytes_of name files) c.as_slice.result.now c.drawn_in.result
          (read.whole files fit ∙ ap (λ (bytes : List ℕ). Some bytes) (sym c.as_slice.ensures)) c.drawn_in.ensures.raw;
      indexed = c.drawn_in.ensures.indexed;
      counted = c.drawn_in.ensures.counted;
    }
