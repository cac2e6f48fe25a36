-- The text that lists the parts of an assembly.
use Rattle.std.specs.Prelude.{◌+◌, ◌++◌, ◌∷◌, [], ℕ, List, length, slice_get, sum_by}
use Rattle.std.specs.Prelude.{option_map, unwrap_or, codes, decimal}
use Rattle.staat_vec.specs.declared.vector.V3.{V3}
use Rattle.staat_model.specs.declared.assembly.Part.{Part}

-- the pieces of part a, and none where there is no such part
abbrev pub pieces_at : List Part → ℕ → List (List V3)
pieces_at parts a = unwrap_or (option_map (λ part. part.pieces) (slice_get parts a)) []

-- the points of the pieces, each counted for each piece that it belongs to
abbrev pub point_count : List (List V3) → ℕ
point_count pieces = sum_by length pieces

-- the line of a part with this number, so many pieces and points, and this name
abbrev pub counted_line : ℕ → ℕ → ℕ → List ℕ → List ℕ
counted_line k pieces points name =
    codes "part " ++ decimal k ++ codes " pieces " ++ decimal pieces ++ codes " points " ++ decimal points
    ++ codes " name " ++ name ++ codes "\n"

-- the line of the part with number k
abbrev pub part_line : ℕ → Part → List ℕ
part_line k part = counted_line k (length part.pieces) (point_count part.pieces) part.name

-- the lines of the parts, which are numbered from k on
abbrev pub lines_from : ℕ → List Part → List ℕ
lines_from k [] = []
lines_from k (part ∷ parts) = part_line k part ++ lines_from (k + 1) parts

-- a line for each part
unfoldable pub parts_text : List Part → List ℕ
parts_text parts = lines_from 0 parts

-- the text of an assembly that was looked at: a line for each part, and that it is sound
unfoldable pub look_text : List Part → List ℕ
look_text parts = parts_text parts ++ codes "sound\n"
