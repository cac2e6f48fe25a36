-- What the reads of files have given.
use Rattle.std.specs.Prelude.{◌≡◌, ◌&&◌, ◌==◌, ℕ, Bool, true, false, List, [], ◌∷◌, ◌++◌}
use Rattle.std.specs.Prelude.{length, take, nat_lt}
use Rattle.std.specs.Prelude.{if◌then◌else◌, Option, Some, None, ⊤}
use Rattle.staat_edge.specs.Files.{bytes_of}

-- One reading of a file: the name by which it was opened, the bytes that the reads have given so far, and whether a
-- read has given none into a buffer with room, so that these are all.
pub record FileReading : Type 0 where
  pub name : List ℕ
  pub bytes : List ℕ
  pub ended : Bool

-- a reading of which nothing was read yet
abbrev pub begun : List ℕ → FileReading
begun name = record { name = name; bytes = []; ended = false }

-- the readings, the last one first, after the last one gave more bytes
abbrev pub grown : List ℕ → List FileReading → List FileReading
grown bytes [] = []
grown bytes (last ∷ before) =
    record { name = last.name; bytes = last.bytes ++ bytes; ended = last.ended } ∷ before

-- the readings after the last one met its end
abbrev pub finished : List FileReading → List FileReading
finished [] = []
finished (last ∷ before) = record { name = last.name; bytes = last.bytes; ended = true } ∷ before

-- the readings after a read that gave so many bytes into the front of a buffer
abbrev pub after_read : ℕ → List ℕ → List FileReading → List FileReading
after_read count buf before =
    if (count == 0) && nat_lt 0 (length buf) then finished before else grown (take count buf) before

-- the bytes read are all of these, where the reading met its end, and else the first of them
abbrev pub IsReadOf : Bool → List ℕ → List ℕ → Type 0
IsReadOf true read bytes = bytes ≡ read
IsReadOf false read bytes = take (length read) bytes ≡ read

-- the file is there, and was read so
abbrev pub IsReadIn : FileReading → Option (List ℕ) → Type 0
IsReadIn reading None = ⊥
IsReadIn reading (Some bytes) = IsReadOf reading.ended reading.bytes bytes

-- the files have what all readings gave
abbrev pub Agree : List FileReading → List (List ℕ × List ℕ) → Type 0
Agree [] files = ⊤
Agree (reading ∷ before) files = IsReadIn reading (bytes_of reading.name files) × Agree before files

-- a reading of a whole file
abbrev pub whole_reading : List ℕ → List ℕ → FileReading
whole_reading name bytes = record { name = name; bytes = bytes; ended = true }
