-- What is known of names and of parts before it is known which files they come from.
use Rattle.std.specs.Prelude.{◌≡◌, ◌≤◌, ℕ, List, length, map, sum_by, All, Contains}
use Rattle.staat_vec.specs.declared.vector.TheConstants.{POINT}
use Rattle.staat_vec.specs.Vectors.{IsWithin}
use Rattle.staat_model.specs.declared.assembly.Part.{Part}
use Rattle.staat_model.specs.Pieces.{IsPiece}
use Rattle.staat_manifest.specs.declared.listing.ListedPart.{ListedPart}
use Rattle.staat_input.specs.declared.limits.Limits.{Limits}

-- at most so many parts and pieces, a piece or more in each part, and no part moved by more than a coordinate
pub record IsFewWithin (limits : Limits) (named : List ListedPart) : Type 0 where
  pub at_least : 1 ≤ length named
  pub at_most : length named ≤ limits.parts
  pub each : All (λ part. 1 ≤ length part.pieces) named
  pub placed : All (λ part. IsWithin POINT part.at) named
  pub pieces : sum_by (λ part. length part.pieces) named ≤ limits.pieces

-- each part has the pieces that were named for it, as many as there are names
pub record AreRead (named : List ListedPart) (parts : List Part) : Type 0 where
  pub each : map (λ part. length part.pieces) parts ≡ map (λ part. length part.pieces) named
  pub pieces : All (λ part. All IsPiece part.pieces) parts

-- a part that is listed has a piece in this file
pub record ListsPiece (listing : List ListedPart) (name : List ℕ) : Type 0 where
  pub part : ListedPart
  pub listed : Contains listing part
  pub piece : Contains part.pieces name
