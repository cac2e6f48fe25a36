-- Walls across the axes.
use Rattle.std.specs.Prelude.{◌≢◌, pos, negsuc, List, [], ◌∷◌}
use Rattle.staat_vec.specs.declared.vector.V3.{V3}
use Rattle.staat_vec.specs.Vectors.{origin, vector}
use Rattle.staat_model.specs.Walls.{IsBeyond}

-- n is the normal of a wall between the pieces: not zero, and all of q lies beyond p along it
abbrev pub IsWallBetween : List V3 → List V3 → V3 → Type 0
IsWallBetween p q n = (n ≢ origin) × IsBeyond p q n

-- the directions of the axes, both ways
abbrev pub axis_walls : List V3
axis_walls =
    vector (pos 1) (pos 0) (pos 0)
    ∷ vector (negsuc 0) (pos 0) (pos 0)
    ∷ vector (pos 0) (pos 1) (pos 0)
    ∷ vector (pos 0) (negsuc 0) (pos 0)
    ∷ vector (pos 0) (pos 0) (pos 1)
    ∷ vector (pos 0) (pos 0) (negsuc 0)
    ∷ []
