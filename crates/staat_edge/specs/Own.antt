-- The files that readings gave.
use Rattle.std.specs.Prelude.{◌≡◌, ℕ, List, [], ◌∷◌, map, ⊤}
use Rattle.std.specs.Prelude.{None}
use Rattle.staat_edge.specs.Files.{bytes_of}
use Rattle.staat_edge.specs.Readings.{FileReading}

-- a file for each reading, of the bytes that it gave
abbrev pub files_of : List FileReading → List (List ℕ × List ℕ)
files_of given = map (λ r. (r.name, r.bytes)) given

-- no file was opened twice
abbrev pub AreOnce : List FileReading → Type 0
AreOnce [] = ⊤
AreOnce (reading ∷ before) = (bytes_of reading.name (files_of before) ≡ None) × AreOnce before
