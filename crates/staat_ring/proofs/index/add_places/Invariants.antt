use Rattle.std.proofs.Common.{◌≡◌, ℕ, ◌<◌, ◌+◌, length, sum, take}
use Rattle.std.specs.Prelude.{Some, slice_get}
use Rattle.staat_model.specs.Sets.{Has}
use Rattle.staat_pairs.specs.Tables.{pieces_of, place}
use Rattle.staat_ring.specs.declared.index.PiecePlace.{PiecePlace}
use Rattle.staat_ring.proofs.index.add_places.Given as goal

abbrev pub invariant-loop-i : goal.invariant-loop-i
invariant-loop-i l = record {
  size : length l.places.items ≡ sum (take l.a l.table.pieces) + l.i;
  part : (p : ℕ) (x : PiecePlace) → slice_get l.places.items p ≡ Some x → Has l.table.of x.part;
  piece : (p : ℕ) (x : PiecePlace) → slice_get l.places.items p ≡ Some x → x.piece < pieces_of l.table x.part;
  is : (p : ℕ) (x : PiecePlace) → slice_get l.places.items p ≡ Some x → place l.table.pieces x.part x.piece ≡ p;
  all : l.i-end ≡ pieces_of l.table l.a;
}
