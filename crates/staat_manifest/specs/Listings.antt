-- Parts as they are listed, and what holds of every list of parts that is accepted.
use Rattle.std.specs.Prelude.{◌≡◌, ◌≢◌, ◌≤◌, ℕ, List, length, map, sum_by, All, AllPairs}
use Rattle.serde_json.specs.Data.{Data}
use Rattle.staat_vec.specs.declared.vector.TheConstants.{POINT}
use Rattle.staat_vec.specs.Vectors.{IsWithin}
use Rattle.staat_limits.specs.declared.limits.TheConstants.{MOST_PARTS, MOST_PIECES}
use Rattle.staat_manifest.specs.declared.listing.ListedPart.{ListedPart}
use Rattle.staat_manifest.specs.Placements.{at_of}
use Rattle.staat_manifest.specs.Values.{Text, name_of, pieces_in, text_in}

-- the part as it is listed
abbrev pub listed : Data → ListedPart
listed part = record { name = name_of part; pieces = map text_in (pieces_in part); at = at_of part }

-- 1 to so many parts of different names, each with a piece or more and moved by no more than a coordinate, and at most
-- so many pieces in all
pub record IsListingWithin (most_parts most_pieces : ℕ) (parts : List ListedPart) : Type 0 where
  pub at_least : 1 ≤ length parts
  pub at_most : length parts ≤ most_parts
  pub each : All (λ part. 1 ≤ length part.pieces) parts
  pub placed : All (λ part. IsWithin POINT part.at) parts
  pub pieces : sum_by (λ part. length part.pieces) parts ≤ most_pieces
  pub names : AllPairs (λ a b. a ≢ b) (map (λ part. part.name) parts)

-- as many parts and pieces as an assembly has
abbrev pub IsListing : List ListedPart → Type 0
IsListing parts = IsListingWithin MOST_PARTS MOST_PIECES parts

-- The names and the number of the pieces that some parts have, which are no more than may be.
pub record IsTally (most_pieces : ℕ) (parts : List ListedPart) (names : List Text) (count : ℕ) : Type 0 where
  pub named : names ≡ map (λ part. part.name) parts
  pub counted : count ≡ sum_by (λ part. length part.pieces) parts
  pub within : count ≤ most_pieces
