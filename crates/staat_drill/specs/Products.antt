-- The products that the program makes itself: cubes in a row, and a cube in boxes, each around the one before.
use Rattle.std.specs.Prelude.{ℕ, ◌+◌, ◌*◌, pos, neg_ℤ, ◌<ℤ◌, List, [], ◌∷◌, map}
use Rattle.std.specs.List.{range_with_len}
use Rattle.staat_vec.specs.declared.vector.V3.{V3}
use Rattle.staat_vec.specs.declared.vector.TheConstants.{POINT}
use Rattle.staat_vec.specs.Vectors.{IsWithin, vector}
use Rattle.staat_model.specs.declared.assembly.Part.{Part}
use Rattle.staat_samples.specs.Hulls.{box_corners}

-- the first corner lies below the second in each component, and neither is too far out
pub record IsBox (corners : V3 × V3) : Type 0 where
  pub x : corners.0.x <ℤ corners.1.x
  pub y : corners.0.y <ℤ corners.1.y
  pub z : corners.0.z <ℤ corners.1.z
  pub low : IsWithin POINT corners.0
  pub high : IsWithin POINT corners.1

-- the part without a name that is the union of the boxes between these corners
abbrev pub part_of_boxes : List (V3 × V3) → Part
part_of_boxes boxes = record { name = []; pieces = map (λ corners. box_corners corners.0 corners.1) boxes }

-- the cube at place k of a row: x from 2k to 2k + 2, y and z from 0 to 2
abbrev pub cube_at : ℕ → V3 × V3
cube_at k = (vector (pos (2 * k)) (pos 0) (pos 0), vector (pos (2 * k + 2)) (pos 2) (pos 2))

-- n cubes in a row
abbrev pub row_of_cubes : ℕ → List Part
row_of_cubes n = map (λ k. part_of_boxes (cube_at k ∷ [])) (range_with_len 0 n)

-- the cube from -1 to 1
abbrev pub core : V3 × V3
core = (vector (neg_ℤ (pos 1)) (neg_ℤ (pos 1)) (neg_ℤ (pos 1)), vector (pos 1) (pos 1) (pos 1))

-- the six slabs of the box number k, which reaches from k to k + 1 on both sides of each axis
abbrev pub slabs : ℕ → List (V3 × V3)
slabs k =
    let near = pos k in let far = pos (k + 1) in let back = neg_ℤ far in let behind = neg_ℤ near in
    (vector near back back, vector far far far) ∷
    (vector back back back, vector behind far far) ∷
    (vector back near back, vector far far far) ∷
    (vector back back back, vector far behind far) ∷
    (vector back back near, vector far far far) ∷
    (vector back back back, vector far far behind) ∷ []

-- the cube and n boxes, each around what stands before it
abbrev pub nested_boxes : ℕ → List Part
nested_boxes n = part_of_boxes (core ∷ []) ∷ map (λ k. part_of_boxes (slabs k)) (range_with_len 1 n)
