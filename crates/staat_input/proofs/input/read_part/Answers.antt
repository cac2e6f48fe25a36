use Rattle.std.proofs.Common.{◌∙◌, ◌+◌, ℕ, Err, List, Ok, ap, inl, inr, length, map, refl, subst, Contains}
use Rattle.staat_edge.proofs.OpeningLemmas.{none_opened}
use Rattle.staat_input.specs.Drawing.{SketchGrows, solid_of}
use Rattle.staat_input.specs.Inputs.{part_of}
use Rattle.staat_input.specs.Moved.{IsMovedPieceOf}
use Rattle.staat_input.specs.Taking.{TakesFiles}
use Rattle.staat_input.specs.Work.{Each}
use Rattle.staat_input.proofs.InputLemmas.{no_value, no_value_on}
use Rattle.staat_input.proofs.TakingLemmas.{after_none, after_step, takes_fault, takes_memory, takes_pure}
use Rattle.staat_input.proofs.input.read_part.Goals as goal

pub returns-in_err-name : goal.returns-in_err-name
returns-in_err-name g c = record {
  takes = takes_memory (after_none _) (λ f. none_opened c.args.named.now.pieces _ _ refl) c.from_residual.ensures.1;
  pieces = no_value _ _ c.from_residual.result c.from_residual.ensures.1;
  grows = no_value_on _ _ c.from_residual.result c.from_residual.ensures.1;
}

pub returns-in_err-pieces : goal.returns-in_err-pieces
returns-in_err-pieces g c =
    let is = c.from_residual-in_err-pieces.ensures.1 in
    let takes = subst (λ (names : List (List ℕ)). TakesFiles (λ files. Each (IsMovedPieceOf files c.args.digits c.args.named.now.at) names) names (Contains names)
    (g.H.Shelf.told c.args.shelf.now) (g.H.Shelf.told c.read_pieces.new.shelf) (Err c.in_err-pieces.field-0.0)) c.as_slice-names.ensures c.in_err-pieces.ensures.takes in
    record {
      takes = takes_fault (after_none _) takes (λ files fit f at. inl (f, at, refl)) (λ f. takes.opens) (λ name h. h) is;
      pieces = no_value _ _ c.from_residual-in_err-pieces.result is;
      grows = no_value_on _ _ c.from_residual-in_err-pieces.result is;
    }

pub returns : goal.returns
returns g c =
    let pieces = c.in_ok-pieces.pieces in
    let takes = subst (λ (names : List (List ℕ)). TakesFiles (λ files. Each (IsMovedPieceOf files c.args.digits c.args.named.now.at) names) names (Contains names)
    (g.H.Shelf.told c.args.shelf.now) (g.H.Shelf.told c.read_pieces.new.shelf) (Ok pieces)) c.as_slice-names.ensures c.in_ok-pieces.ensures.takes in
    record {
      takes = takes_pure (after_step takes)
          (λ files fit. inr (pieces, takes.found files fit, ap (λ name. Ok (part_of name pieces)) c.in_ok-name.ensures))
          takes.opens (λ shelf. tt);
      pieces = (c.in_ok-pieces.ensures.pieces.0, c.in_ok-pieces.ensures.pieces.1 ∙ ap length c.as_slice-names.ensures);
      grows = subst (λ (names : List (List ℕ)). SketchGrows (λ files. map (solid_of files c.args.digits c.args.part c.args.named.now.at) names) (c.args.part + 1) (length names)
          (g.H.Shelf.told c.read_pieces.new.shelf) c.args.sketch.now c.read_pieces.new.sketch) c.as_slice-names.ensures c.in_ok-pieces.ensures.grows;
    }
