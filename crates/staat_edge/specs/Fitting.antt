-- The files that a shelf has shown.
use Rattle.std.specs.Prelude.{◌≡◌, ◌<◌, ℕ, List, length, Option, Some, None, IsSomeAnd}
use Rattle.staat_edge.specs.Files.{bytes_of}
use Rattle.staat_edge.specs.Readings.{FileReading, Agree}
use Rattle.staat_edge.specs.Told.{ShelfTold}

-- they are those that are told; or, where none are, they have what all these readings gave
abbrev pub FitBy : Option (List (List ℕ × List ℕ)) → List FileReading → List (List ℕ × List ℕ) → Type 0
FitBy None given files = Agree given files
FitBy (Some held) given files = Some held ≡ Some files

-- the files fit what the shelf tells: they are those that it holds; or, where it does not tell what it holds, they have
-- what all its readings gave
abbrev pub Fit : ShelfTold → List (List ℕ × List ℕ) → Type 0
Fit told files = FitBy told.holds told.given files

-- files that fit what the shelf tells now fitted what it told before
abbrev pub Narrows : ShelfTold → ShelfTold → Type 0
Narrows before now = (files : List (List ℕ × List ℕ)) → Fit now files → Fit before files

-- these are all the bytes of the file, in all files that fit
abbrev pub IsWhole : ShelfTold → List ℕ → List ℕ → Type 0
IsWhole told name bytes =
    (files : List (List ℕ × List ℕ)) → Fit told files → bytes_of name files ≡ Some bytes

-- the file has more bytes than that, in all files that fit
abbrev pub IsLonger : ShelfTold → List ℕ → ℕ → Type 0
IsLonger told name limit = (files : List (List ℕ × List ℕ)) → Fit told files →
    IsSomeAnd (bytes_of name files) (λ bytes. limit < length bytes)
