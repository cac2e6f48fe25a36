-- The points and faces of a scene, and its text.
use Rattle.std.specs.Prelude.{◌+◌, ◌++◌, ℕ, ℤ, pos, List, [], ◌∷◌, map, flat_map, length, codes}
use Rattle.std.specs.Prelude.{slice_get, unwrap_or}
use Rattle.std.specs.Fmt.{signed_decimal}
use Rattle.staat_vec.specs.declared.vector.V3.{V3}
use Rattle.staat_vec.specs.Vectors.{origin, plus}
use Rattle.staat_model.specs.Lines.{spaced}
use Rattle.staat_off.specs.declared.raw.Raw.{Raw}
use Rattle.staat_explode.specs.declared.scene.Solid.{Solid}

-- the vector of a part
abbrev pub shift_at : List V3 → ℕ → V3
shift_at shifts part = unwrap_or (slice_get shifts part) origin

-- the points of a solid, each at its place in the scene
abbrev pub placed_points : List V3 → Solid → List V3
placed_points shifts s = map (λ p. plus (plus p s.at) (shift_at shifts s.part)) s.raw.points

-- the points of all solids in order
abbrev pub points_of_scene : List Solid → List V3 → List V3
points_of_scene solids shifts = flat_map (placed_points shifts) solids

-- the faces of all solids in order, where `before` points come before: each corner is raised by the number of points
-- of the earlier solids
abbrev pub faces_behind : ℕ → List Solid → List (List ℕ)
faces_behind before [] = []
faces_behind before (s ∷ ss) =
    map (map (λ corner. before + corner)) s.raw.faces ++ faces_behind (before + length s.raw.points) ss

-- how many points the solids have in all
abbrev pub count_of_points : List Solid → ℕ
count_of_points [] = 0
count_of_points (s ∷ ss) = length s.raw.points + count_of_points ss

-- the points and faces of the scene
abbrev pub scene_of : List Solid → List V3 → Raw
scene_of solids shifts = record { points = points_of_scene solids shifts; faces = faces_behind 0 solids }

-- a line of numbers, parted by spaces
abbrev pub numbers_line : ℤ → List ℤ → List ℕ
numbers_line z zs = signed_decimal z ++ spaced zs

abbrev pub point_line : V3 → List ℕ
point_line p = numbers_line p.x (p.y ∷ p.z ∷ [])

abbrev pub face_line : List ℕ → List ℕ
face_line face = numbers_line (pos (length face)) (map pos face)

-- `OFF`; the numbers of points and faces, and 0
abbrev pub head_text : ℕ → ℕ → List ℕ
head_text points faces = codes "OFF\n" ++ numbers_line (pos points) (pos faces ∷ pos 0 ∷ [])

-- a corner, after a space
abbrev pub corner_text : ℕ → List ℕ
corner_text corner = 32 ∷ signed_decimal (pos corner)

-- the head; the points; the faces
unfoldable pub off_text : Raw → List ℕ
off_text raw =
    head_text (length raw.points) (length raw.faces)
    ++ (flat_map point_line raw.points ++ flat_map face_line raw.faces)
