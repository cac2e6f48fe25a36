-- Files that fit what a shelf has shown, before a reading and after it.
use Rattle.std.proofs.Common.{◌≡◌, ◌<◌, ℕ, true, false, List, [], ◌∷◌, ◌++◌, length, take, Option, Some, None, refl, inr, ◌∙◌, ap, subst, arith}
use Rattle.std.proofs.lemmas.Grind.{common_steps}
use Rattle.std.proofs.lemmas.List.{length-take}
use Rattle.std.specs.Prelude.{IsSomeAnd, Bool, ◌==◌, ◌&&◌, nat_lt, if◌then◌else◌}
use Rattle.staat_edge.specs.Files.{bytes_of}
use Rattle.staat_edge.specs.Fitting.{FitBy}
use Rattle.staat_edge.specs.Readings.{IsReadIn, whole_reading, FileReading, after_read, finished, grown}
use Rattle.staat_edge.specs.Opening.{OpensAll, OpensSome}

pub before_one : (holds : Option (List (List ℕ × List ℕ))) (reading : FileReading) (before : List FileReading) (files : List (List ℕ × List ℕ)) → FitBy holds (reading ∷ before) files → FitBy holds before files
before_one None reading before files fit = fit.1
before_one (Some held) reading before files fit = fit

one_opened : (name : List ℕ) (reading : FileReading) (before now : List FileReading) → reading.name ≡ name → now ≡ reading ∷ before → OpensSome (name ∷ []) before now
one_opened name reading before now named is = inr (reading, named, is)

one_by : (ends : Bool) (name taken more : List ℕ) (before now : List FileReading) → now ≡ (if ends then finished (record { name = name; bytes = taken; ended = false } ∷ before) else grown more (record { name = name; bytes = taken; ended = false } ∷ before)) → OpensSome (name ∷ []) before now
one_by true name taken more before now is = one_opened name _ before now refl is
one_by false name taken more before now is = one_opened name _ before now refl is

-- after a read it is still one reading
pub still_one : (count : ℕ) (buf name taken : List ℕ) (before mid now : List FileReading) → mid ≡ record { name = name; bytes = taken; ended = false } ∷ before → now ≡ after_read count buf mid → OpensSome (name ∷ []) before now
still_one count buf name taken before mid now mid_is now_is =
    one_by ((count == 0) && nat_lt 0 (length buf)) name taken (take count buf) before now (now_is ∙ ap (after_read count buf) mid_is)

-- a reading that stands first
pub as_it_is : (name taken : List ℕ) (before now : List FileReading) → now ≡ record { name = name; bytes = taken; ended = false } ∷ before → OpensSome (name ∷ []) before now
as_it_is name taken before now is = one_opened name _ before now refl is

in_whole : (o : Option (List ℕ)) (name text : List ℕ) → IsReadIn (whole_reading name text) o → o ≡ Some text
in_whole None name text h = absurd h
in_whole (Some bytes) name text h = ap Some h

whole_by : (holds : Option (List (List ℕ × List ℕ))) (name text : List ℕ) (before : List FileReading) (files : List (List ℕ × List ℕ)) → FitBy holds (whole_reading name text ∷ before) files → ((held : List (List ℕ × List ℕ)) → holds ≡ Some held → bytes_of name held ≡ Some text) → bytes_of name files ≡ Some text
whole_by None name text before files fit tells = in_whole (bytes_of name files) name text fit.0
whole_by (Some held) name text before files fit tells = tells files fit

-- what a whole reading gave are the bytes of the file, where those that the shelf tells are so
pub whole_fits : (holds : Option (List (List ℕ × List ℕ))) (name text : List ℕ) (before now : List FileReading) → now ≡ whole_reading name text ∷ before → ((held : List (List ℕ × List ℕ)) → holds ≡ Some held → bytes_of name held ≡ Some text) → (files : List (List ℕ × List ℕ)) → FitBy holds now files → bytes_of name files ≡ Some text
whole_fits holds name text before now given tells files fit =
    whole_by holds name text before files (subst (λ (g : List FileReading). FitBy holds g files) given fit) tells

in_part : (o : Option (List ℕ)) (name text : List ℕ) (limit : ℕ) → limit < length text → IsReadIn (record { name = name; bytes = text; ended = false }) o → IsSomeAnd o (λ bytes. limit < length bytes)
in_part None name text limit lt h = absurd h
in_part (Some bytes) name text limit lt h = omega (arith, lt, ap length h, length-take (length text) bytes)

longer_by : (holds : Option (List (List ℕ × List ℕ))) (name text : List ℕ) (limit : ℕ) (before : List FileReading) (files : List (List ℕ × List ℕ)) → limit < length text → FitBy holds (record { name = name; bytes = text; ended = false } ∷ before) files → ((held : List (List ℕ × List ℕ)) → holds ≡ Some held → IsSomeAnd (bytes_of name held) (λ bytes. limit < length bytes)) → IsSomeAnd (bytes_of name files) (λ bytes. limit < length bytes)
longer_by None name text limit before files lt fit tells = in_part (bytes_of name files) name text limit lt fit.0
longer_by (Some held) name text limit before files lt fit tells = tells files fit

-- the same of a reading of more bytes than the limit
pub longer_fits : (holds : Option (List (List ℕ × List ℕ))) (name text : List ℕ) (limit : ℕ) (before now : List FileReading) → limit < length text → now ≡ record { name = name; bytes = text; ended = false } ∷ before → ((held : List (List ℕ × List ℕ)) → holds ≡ Some held → IsSomeAnd (bytes_of name held) (λ bytes. limit < length bytes)) → (files : List (List ℕ × List ℕ)) → FitBy holds now files → IsSomeAnd (bytes_of name files) (λ bytes. limit < length bytes)
longer_fits holds name text limit before now lt given tells files fit =
    longer_by holds name text limit before files lt (subst (λ (g : List FileReading). FitBy holds g files) given fit) tells

-- a read that gave some bytes made the last reading longer
pub grown_by : (count : ℕ) (buf name taken : List ℕ) (before mid now : List FileReading) → 0 < count → mid ≡ record { name = name; bytes = taken; ended = false } ∷ before → now ≡ after_read count buf mid → now ≡ record { name = name; bytes = taken ++ take count buf; ended = false } ∷ before
grown_by count buf name taken before mid now some mid_is now_is = grind (arith, common_steps, some, mid_is, now_is)

-- a read that gave none into a buffer with room ended it
pub ended_by : (buf name taken : List ℕ) (before mid now : List FileReading) → 0 < length buf → mid ≡ record { name = name; bytes = taken; ended = false } ∷ before → now ≡ after_read 0 buf mid → now ≡ whole_reading name taken ∷ before
ended_by buf name taken before mid now room mid_is now_is = grind (arith, common_steps, room, mid_is, now_is)

-- so it is all of the one file that was to be opened
pub one_ended : (buf name taken : List ℕ) (before mid now : List FileReading) → 0 < length buf → mid ≡ record { name = name; bytes = taken; ended = false } ∷ before → now ≡ after_read 0 buf mid → OpensAll (name ∷ []) before now
one_ended buf name taken before mid now room mid_is now_is = (whole_reading name taken, refl, ended_by buf name taken before mid now room mid_is now_is)
