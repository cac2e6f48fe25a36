use Rattle.std.proofs.Common.{◌+◌, [], ◌∷◌, arith, inl, refl, subst}
use Rattle.std.specs.Prelude.{is_ok}
use Rattle.staat_edge.proofs.OpeningLemmas.{all_some}
use Rattle.staat_off.specs.declared.raw.Raw.{Raw}
use Rattle.staat_input.specs.Drawing.{Drew, SketchGrows, solid_of}
use Rattle.staat_input.specs.Moved.{MovesPiece}
use Rattle.staat_input.specs.Pieces.{IsPieceOf}
use Rattle.staat_input.proofs.InputLemmas.{no_value_on, then_given, value_on}
use Rattle.staat_input.proofs.OpenedLemmas.{all_opened}
use Rattle.staat_input.proofs.TakingLemmas.{after_none, after_step, takes_fault, takes_memory, takes_pure}
use Rattle.staat_input.proofs.moved.read_moved.Goals as goal

pub returns-in_err-raw : goal.returns-in_err-raw
returns-in_err-raw g c = record {
  takes = takes_fault (after_none _) c.in_err-raw.ensures.takes (λ files fit f at. inl (f, at, refl))
      (λ f. c.in_err-raw.ensures.takes.opens) (λ long e. e) c.from_residual.ensures.1;
  grows = no_value_on _ _ c.from_residual.result c.from_residual.ensures.1;
}

pub returns-in_err-add : goal.returns-in_err-add
returns-in_err-add g c = record {
  takes = takes_memory (after_step c.in_ok-raw.ensures.takes)
      (λ f. all_some (c.args.name.now ∷ []) _ _ c.in_ok-raw.ensures.takes.opens) c.from_residual-in_err-add.ensures.1;
  grows = no_value_on _ _ c.from_residual-in_err-add.result c.from_residual-in_err-add.ensures.1;
}

pub returns : goal.returns
returns g c =
    let before = g.H.Shelf.told c.args.shelf.now in
    let now = g.H.Shelf.told c.read_drawn.new.shelf in
    let name = c.args.name.now in
    let sketch = c.args.sketch.now in
    let kept = c.add.new.self in
    let read = c.in_ok-raw.ensures.takes in
    record {
      takes = takes_pure (after_step read)
          (λ files fit. then_given (IsPieceOf files c.args.digits name) (MovesPiece name c.args.at)
          c.in_ok-raw.field-0.piece c.moved.result (read.found files fit) c.moved.ensures.moves)
          (all_opened (is_ok c.moved.result) (name ∷ []) before.given now.given read.opens) c.moved.ensures.cause;
      grows = value_on (SketchGrows (λ files. solid_of files c.args.digits c.args.part c.args.at name ∷ []) (c.args.part + 1) 1 now sketch kept)
          c.moved.result (record {
            drew = λ files fit. subst (λ (raw : Raw). Drew sketch kept (record { part = c.args.part; at = c.args.at; raw = raw } ∷ []))
                (c.in_ok-raw.ensures.raw files fit) c.in_ok-add.ensures.drew;
            small = λ parts most few small. c.in_ok-add.ensures.small parts most (omega (arith, few)) small;
          });
    }
