-- What is kept of all pieces for one direction, and the parts that it was made from.
use Rattle.std.specs.Prelude.{ℕ, ◌<◌, List, [], All, Option, length, option_and_then, option_map, slice_get}
use Rattle.std.specs.Prelude.{unwrap_or}
use Rattle.staat_vec.specs.declared.vector.V3.{V3}
use Rattle.staat_vec.specs.declared.vector.TheConstants.{DIRECTION}
use Rattle.staat_vec.specs.Vectors.{IsWithin, vector_cmp}
use Rattle.staat_vec.specs.Lists.{Lists}
use Rattle.staat_model.specs.declared.assembly.Part.{Part}
use Rattle.staat_model.specs.declared.certificate.Arc.{Arc}
use Rattle.staat_model.specs.Assemblies.{HoldsAt, IsPart, piece_count}
use Rattle.staat_model.specs.Facets.{IsFacet}
use Rattle.staat_motion.specs.declared.bounds.Bounds.{Bounds}
use Rattle.staat_motion.specs.declared.frame.Frame.{Frame}
use Rattle.staat_motion.specs.declared.shadow.Shadow.{Shadow}
use Rattle.staat_motion.specs.Frames.{IsFrame}
use Rattle.staat_motion.specs.Shadows.{ArePartBounds, ArePartShadows, AreWholes, part_points}

-- a direction, the normals across it, for each part the shadows of its pieces, and that of all its points
pub record Motion : Type 0 where
  pub d : V3
  pub frame : Frame
  pub shadows : List (List Shadow)
  pub wholes : List Shadow

-- the normals are those across the direction, which is no greater than one may be
pub record IsMotion (d : V3) (frame : Frame) : Type 0 where
  pub size : IsWithin DIRECTION d
  pub across : IsFrame d frame

-- each part has a piece, and the boxes are those of the pieces of these parts
pub record AreBodies (parts : List Part) (bounds : List (List Bounds)) : Type 0 where
  pub parts_are : All IsPart parts
  pub boxes : ArePartBounds parts bounds

-- the shadows are those of these parts
pub record IsMotionOf (parts : List Part) (along : Motion) : Type 0 where
  pub parts_are : All IsPart parts
  pub shadows : ArePartShadows along.frame parts along.shadows
  pub wholes : AreWholes along.frame parts along.wholes

-- the pieces of part a, where there is one
abbrev pub pieces_of_body : List Part → ℕ → Option (List (List V3))
pieces_of_body parts a = option_map (λ part. part.pieces) (slice_get parts a)

-- all points of part a, and none where there is no such part
abbrev pub points_of_body : List Part → ℕ → List V3
points_of_body parts a = unwrap_or (option_map part_points (slice_get parts a)) []

-- the two pieces of the arc exist
pub record HasBothPieces (parts : List Part) (arc : Arc) : Type 0 where
  pub a_in : arc.a < length parts
  pub i_in : arc.i < piece_count parts arc.a
  pub b_in : arc.b < length parts
  pub j_in : arc.j < piece_count parts arc.b

-- the list is that of the facets of the two pieces of the arc
abbrev pub HasFacets : List Part → Arc → List V3 → Type 0
HasFacets parts arc facets = HoldsAt parts arc (λ p q. Lists vector_cmp (IsFacet p q) facets)

-- the two pieces in the other order
abbrev pub turned : Arc → Arc
turned arc = record { a = arc.b; i = arc.j; b = arc.a; j = arc.i }

-- how many shadows part a has, and 0 where there is no such part
abbrev pub shadow_count : List (List Shadow) → ℕ → ℕ
shadow_count shadows a = unwrap_or (option_map (λ s. length s) (slice_get shadows a)) 0

-- the shadow of piece i of part a, where there is one
abbrev pub shadow_at : List (List Shadow) → ℕ → ℕ → Option Shadow
shadow_at shadows a i = option_and_then (λ s. slice_get s i) (slice_get shadows a)

-- the shadows of the two pieces of the arc are kept
pub record HasShadows (along : Motion) (arc : Arc) : Type 0 where
  pub a_in : arc.a < length along.shadows
  pub i_in : arc.i < shadow_count along.shadows arc.a
  pub b_in : arc.b < length along.shadows
  pub j_in : arc.j < shadow_count along.shadows arc.b
