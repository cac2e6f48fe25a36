-- Packed signs in which a zero gives way to another sign.
use Rattle.std.specs.Prelude.{◌≡◌, ℕ, suc, List, [], ◌∷◌, if◌then◌else◌, slice_index_or}
use Rattle.staat_model.specs.Cells.{is_zero}
use Rattle.staat_vec.specs.declared.vector.Sign.{Sign}
use Rattle.staat_vec.specs.declared.vector.Sign.TheVariants.{Pos, Zero}

-- the signs are zero at place k
abbrev pub IsZeroAt : List Sign → ℕ → Type 0
IsZeroAt s k = slice_index_or s k Pos ≡ Zero

-- the places of the zeros, the first sign at place k
abbrev pub zero_places : ℕ → List Sign → List ℕ
zero_places k [] = []
zero_places k (x ∷ s) = if is_zero x then k ∷ zero_places (suc k) s else zero_places (suc k) s
