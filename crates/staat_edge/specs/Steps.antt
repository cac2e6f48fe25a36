-- The steps of a shelf or a sink, and what they come to.
use Rattle.std.specs.Prelude.{ℕ, List, [], ◌∷◌, ◌++◌}
use Rattle.staat_edge.specs.Readings.{FileReading, begun, grown, finished}

-- a file was opened, bytes went over, or the end of the open file was met
pub data FileStep : Type 0 where
  opens_file : List ℕ → FileStep
  gives_bytes : List ℕ → FileStep
  meets_end : FileStep

-- the readings that steps make, the last one first, where the steps are listed last one first
abbrev pub readings : List FileStep → List FileReading
readings [] = []
readings (opens_file name ∷ before) = begun name ∷ readings before
readings (gives_bytes bytes ∷ before) = grown bytes (readings before)
readings (meets_end ∷ before) = finished (readings before)

-- the bytes that went over, in their order
abbrev pub bytes_over : List FileStep → List ℕ
bytes_over [] = []
bytes_over (opens_file name ∷ before) = bytes_over before
bytes_over (gives_bytes bytes ∷ before) = bytes_over before ++ bytes
bytes_over (meets_end ∷ before) = bytes_over before
