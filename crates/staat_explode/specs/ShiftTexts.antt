-- The text of the vectors of parts.
use Rattle.std.specs.Prelude.{◌+◌, ◌++◌, ◌∷◌, [], ℕ, List, codes, decimal}
use Rattle.staat_vec.specs.declared.vector.V3.{V3}
use Rattle.staat_model.specs.Lines.{spaced, vector_numbers}

-- `shift P by X Y Z`
abbrev pub shift_line : ℕ → V3 → List ℕ
shift_line part v = codes "shift " ++ (decimal part ++ (codes " by" ++ spaced (vector_numbers v)))

-- the lines of the parts, which are numbered from `part` on
abbrev pub shift_lines_from : ℕ → List V3 → List ℕ
shift_lines_from part [] = []
shift_lines_from part (v ∷ vs) = shift_line part v ++ shift_lines_from (part + 1) vs

-- a line for each part
unfoldable pub shifts_text : List V3 → List ℕ
shifts_text shifts = shift_lines_from 0 shifts
