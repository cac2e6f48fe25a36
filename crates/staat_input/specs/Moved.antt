-- The piece of a part: the one that its file holds, moved by the part's vector.
use Rattle.std.specs.Prelude.{◌≡◌, ℕ, List, All, Ok, Err}
use Rattle.staat_vec.specs.declared.vector.TheConstants.{POINT}
use Rattle.staat_vec.specs.declared.vector.V3.{V3}
use Rattle.staat_vec.specs.Vectors.{IsWithin}
use Rattle.staat_asm.specs.Placing.{IsPlacedFar, shifted}
use Rattle.staat_fault.specs.declared.fault.Fault.TheVariants.{PlacedFar}
use Rattle.staat_input.specs.Work.{Files, Found, Then}
use Rattle.staat_input.specs.Pieces.{IsPieceOf}

-- What the step finds that moves the piece of that file: a moved point is too far out, or these are its points.
pub data MovesPiece (name : List ℕ) (at : V3) (points : List V3) : Found (List V3) → Type 0 where
  too_far : {found : Found (List V3)} → IsPlacedFar at points → found ≡ Err (PlacedFar name) →
      MovesPiece name at points found
  moved : {found : Found (List V3)} → All (IsWithin POINT) (shifted at points) →
      found ≡ Ok (shifted at points) → MovesPiece name at points found

-- what the step finds that reads the piece of a file and moves it
abbrev pub IsMovedPieceOf : Files → ℕ → V3 → List ℕ → Found (List V3) → Type 0
IsMovedPieceOf files digits at name = Then (IsPieceOf files digits name) (MovesPiece name at)
