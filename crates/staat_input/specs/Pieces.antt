-- The piece that a file holds.
use Rattle.std.specs.Prelude.{◌≡◌, ℕ, List, Ok, Err}
use Rattle.staat_vec.specs.declared.vector.V3.{V3}
use Rattle.staat_off.specs.declared.raw.Raw.{Raw}
use Rattle.staat_off.specs.declared.refusal.OffRefusal.{OffRefusal}
use Rattle.staat_off.specs.Reading.{reading}
use Rattle.staat_mesh.specs.declared.refusal.MeshRefusal.{MeshRefusal}
use Rattle.staat_mesh.specs.Polygons.{mesh}
use Rattle.staat_mesh.specs.Judging.{Judges}
use Rattle.staat_input.specs.Work.{Files, Found, IsTaken}
use Rattle.staat_input.specs.Refusals.{off_fault, mesh_fault}

-- What the bytes of a file say, with coordinates scaled by so many decimal digits: it is no OFF file, or its mesh is
-- no piece, or it is this piece.
pub data SaysPiece (digits : ℕ) (name bytes : List ℕ) : Found (List V3) → Type 0 where
  no_file : {found : Found (List V3)} (refusal : OffRefusal) → reading digits bytes ≡ Err refusal →
      found ≡ Err (off_fault name refusal) → SaysPiece digits name bytes found
  no_piece : {found : Found (List V3)} (raw : Raw) (refusal : MeshRefusal) → reading digits bytes ≡ Ok raw →
      Judges (mesh raw) (Err refusal) → found ≡ Err (mesh_fault name refusal) → SaysPiece digits name bytes found
  piece : {found : Found (List V3)} (raw : Raw) (points : List V3) → reading digits bytes ≡ Ok raw →
      Judges (mesh raw) (Ok points) → found ≡ Ok points → SaysPiece digits name bytes found

-- what the step finds that reads the piece of a file
abbrev pub IsPieceOf : Files → ℕ → List ℕ → Found (List V3) → Type 0
IsPieceOf files digits name = IsTaken files name (SaysPiece digits name)
