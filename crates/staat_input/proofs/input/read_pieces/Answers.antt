use Rattle.std.proofs.Common.{◌≡◌, ◌∙◌, ◌+◌, ℕ, List, refl, sym, subst, ap, arith, [], ◌∷◌, All, Contains, length, map}
use Rattle.std.proofs.lemmas.List.{length_push, take_all}
use Rattle.std.proofs.lemmas.List.Elements.{All-nil, All-push}
use Rattle.staat_edge.specs.Opening.{OpensSome}
use Rattle.staat_edge.proofs.OpeningLemmas.{none_opened}
use Rattle.staat_model.specs.Pieces.{IsPiece}
use Rattle.staat_input.specs.Drawing.{SketchGrows, solid_of}
use Rattle.staat_input.specs.Moved.{IsMovedPieceOf}
use Rattle.staat_input.proofs.InputLemmas.{no_value, no_value_on}
use Rattle.staat_input.proofs.OpenedLemmas.{name_next, names_some}
use Rattle.staat_input.proofs.SketchLemmas.{grows_more, grows_none, pieces_more}
use Rattle.staat_input.proofs.TakingLemmas.{HasTaken, after_none, none_taken, taken_end, taken_fault, taken_memory, taken_more, takes_back, takes_memory}
use Rattle.staat_input.proofs.input.read_pieces.Goals as goal

pub loop-name-init : goal.loop-name-init
loop-name-init g c =
    let told = g.H.Shelf.told c.args.shelf.now in
    let items = c.in_ok-pieces.ensures.items in
    record {
      taken = subst (λ done. HasTaken (λ files. IsMovedPieceOf files c.args.digits c.args.at) c.args.names.now 0 done [] told told) (sym items)
          (none_taken (λ files. IsMovedPieceOf files c.args.digits c.args.at) c.args.names.now told);
      pieces = subst (All IsPiece) (sym items) (All-nil IsPiece);
      each = ap length items;
      grows = grows_none (λ files. map (solid_of files c.args.digits c.args.part c.args.at) []) (c.args.part + 1) told c.args.sketch.now (λ files. refl);
    }

pub loop-name-preserved : goal.loop-name-preserved
loop-name-preserved g c =
    let loop = c.loop-name in
    let name = c.name-item.result in
    let items = c.in_ok-push.ensures.items in
    let lt = c.loop-name-test.true in
    record {
      taken = taken_more loop.invariant.taken name (name ∷ []) lt c.name-item.is _ c.in_ok-piece.piece _ c.in_ok-piece.ensures.takes items
          (name_next c.args.names.now loop.name-index name lt c.name-item.is);
      pieces = subst (All IsPiece) (sym items) (All-push IsPiece loop.pieces.items c.in_ok-piece.piece loop.invariant.pieces c.know.ensures);
      each = ap length items ∙ length_push loop.pieces.items c.in_ok-piece.piece ∙ ap (λ n. n + 1) loop.invariant.each;
      grows = grows_more (loop.name-index + 1) (takes_back (name ∷ []) c.in_ok-piece.ensures.takes) (omega arith) refl
          (λ files. pieces_more (solid_of files c.args.digits c.args.part c.args.at) c.args.names.now loop.name-index name lt c.name-item.is)
          loop.invariant.grows c.in_ok-piece.ensures.grows;
    }

pub returns-in_err-pieces : goal.returns-in_err-pieces
returns-in_err-pieces g c = record {
  takes = takes_memory (after_none _) (λ f. none_opened c.args.names.now _ _ refl) c.from_residual.ensures.1;
  pieces = no_value _ _ c.from_residual.result c.from_residual.ensures.1;
  grows = no_value_on _ _ c.from_residual.result c.from_residual.ensures.1;
}

pub returns-in_err-piece : goal.returns-in_err-piece
returns-in_err-piece g c =
    let is = c.from_residual-in_err-piece.ensures.1 in
    let name = c.name-item.result in
    let lt = c.loop-name-test.true in
    let before = (g.H.Shelf.told c.args.shelf.now).given in
    let now = (g.H.Shelf.told c.read_moved.new.shelf).given in
    record {
      takes = taken_fault c.loop-name.invariant.taken name (name ∷ []) lt c.name-item.is c.args.names.now _ c.in_err-piece.ensures.takes
          (λ some. names_some c.args.names.now (c.loop-name.name-index + 1) before now (subst (λ (ns : List (List ℕ)). OpensSome ns before now)
          (name_next c.args.names.now c.loop-name.name-index name lt c.name-item.is) some))
          (λ long e. subst (Contains c.args.names.now) (sym e) (c.loop-name.name-index, lt, sym c.name-item.is)) is;
      pieces = no_value _ _ c.from_residual-in_err-piece.result is;
      grows = no_value_on _ _ c.from_residual-in_err-piece.result is;
    }

pub returns-in_err-push : goal.returns-in_err-push
returns-in_err-push g c =
    let is = c.from_residual-in_err-push.ensures.1 in
    let name = c.name-item.result in
    let lt = c.loop-name-test.true in
    record {
      takes = taken_memory (taken_more c.loop-name.invariant.taken name (name ∷ []) lt c.name-item.is _ c.in_ok-piece.piece _ c.in_ok-piece.ensures.takes refl
          (name_next c.args.names.now c.loop-name.name-index name lt c.name-item.is))
          c.args.names.now (names_some c.args.names.now (c.loop-name.name-index + 1) _ _) is;
      pieces = no_value _ _ c.from_residual-in_err-push.result is;
      grows = no_value_on _ _ c.from_residual-in_err-push.result is;
    }

pub returns : goal.returns
returns g c =
    let loop = c.loop-name in
    let all = take_all loop.name-index c.args.names.now c.loop-name-test.false in
    let count : loop.name-index ≡ length c.args.names.now = omega arith in
    record {
      takes = taken_end loop.invariant.taken c.args.names.now c.from_vec.result c.loop-name-test.false c.from_vec.ensures all;
      pieces = (subst (All IsPiece) (sym c.from_vec.ensures) loop.invariant.pieces, ap length c.from_vec.ensures ∙ loop.invariant.each ∙ count);
      grows = subst (λ n. SketchGrows (λ files. map (solid_of files c.args.digits c.args.part c.args.at) c.args.names.now) (c.args.part + 1) n (g.H.Shelf.told loop.shelf) c.args.sketch.now loop.sketch) count
          (subst (λ (names : List (List ℕ)). SketchGrows (λ files. map (solid_of files c.args.digits c.args.part c.args.at) names) (c.args.part + 1) loop.name-index (g.H.Shelf.told loop.shelf) c.args.sketch.now loop.sketch)
          all loop.invariant.grows);
    }
