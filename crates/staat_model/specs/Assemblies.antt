-- Assemblies and products, which are lists of parts, and when they are sound.
use Rattle.std.specs.Prelude.{◌≡◌, ◌≢◌, ℕ, ◌≤◌, List, length, All, sum_by, Option, Some, slice_get}
use Rattle.std.specs.Prelude.{option_and_then}
use Rattle.std.specs.Prelude.{option_map, unwrap_or}
use Rattle.staat_vec.specs.declared.vector.V3.{V3}
use Rattle.staat_model.specs.declared.assembly.Part.{Part}
use Rattle.staat_model.specs.declared.certificate.Arc.{Arc}
use Rattle.staat_limits.specs.declared.limits.TheConstants.{MOST_PARTS, MOST_PIECES}
use Rattle.staat_limits.specs.declared.limits.TheConstants.{MOST_PRODUCT_PARTS, MOST_PRODUCT_PIECES}
use Rattle.staat_model.specs.Pieces.{IsPiece}
use Rattle.staat_model.specs.Meeting.{Overlap}

-- a part has at least one piece
pub record IsPart (part : Part) : Type 0 where
  pub nonempty : 1 ≤ length part.pieces
  pub pieces : All IsPiece part.pieces

-- at least one part and at most so many, with at most so many pieces in all
pub record ArePartsWithin (most_parts most_pieces : ℕ) (parts : List Part) : Type 0 where
  pub at_least : 1 ≤ length parts
  pub at_most : length parts ≤ most_parts
  pub each : All IsPart parts
  pub pieces : sum_by (λ part. length part.pieces) parts ≤ most_pieces

-- 1 to 32 parts with at most 64 pieces in all
abbrev pub IsAssembly : List Part → Type 0
IsAssembly parts = ArePartsWithin MOST_PARTS MOST_PIECES parts

-- 1 to 1,024 parts with at most 16,384 pieces in all
abbrev pub IsProduct : List Part → Type 0
IsProduct parts = ArePartsWithin MOST_PRODUCT_PARTS MOST_PRODUCT_PIECES parts

-- the name of part a, where there is one
abbrev pub name_at : List Part → ℕ → Option (List ℕ)
name_at parts a = option_map (λ part. part.name) (slice_get parts a)

-- how many pieces part a has, and 0 where there is no such part
abbrev pub piece_count : List Part → ℕ → ℕ
piece_count parts a = unwrap_or (option_map (λ part. length part.pieces) (slice_get parts a)) 0

-- piece i of part a, where there is one
abbrev pub piece_at : List Part → ℕ → ℕ → Option (List V3)
piece_at parts a i = option_and_then (λ part. slice_get part.pieces i) (slice_get parts a)

-- the two pieces of an arc exist, and R holds of them
pub record HoldsAt (parts : List Part) (arc : Arc) (R : List V3 → List V3 → Type 0) : Type 0 where
  pub p : List V3
  pub q : List V3
  pub p_is : piece_at parts arc.a arc.i ≡ Some p
  pub q_is : piece_at parts arc.b arc.j ≡ Some q
  pub holds : R p q

-- no two pieces of different parts overlap
abbrev pub IsSound : List Part → Type 0
IsSound parts = (arc : Arc) → arc.a ≢ arc.b → HoldsAt parts arc Overlap → ⊥
