-- Readings of different files agree with the files that they gave.
use Rattle.std.proofs.Common.{◌≡◌, ℕ, Bool, true, false, List, [], ◌∷◌, Option, Some, None, refl, sym, ◌∙◌, ap, subst, if◌then◌else◌}
use Rattle.std.specs.Prelude.{bytes_eq}
use Rattle.std.proofs.Math.Seq.{take-length}
use Rattle.std.proofs.lemmas.Slice.Eq.{bytes_eq-Decides}
use Rattle.std.proofs.lemmas.Option.{none-some}
use Rattle.staat_edge.specs.Files.{bytes_of}
use Rattle.staat_edge.specs.Own.{AreOnce, files_of}
use Rattle.staat_edge.specs.Readings.{Agree, IsReadIn, IsReadOf, FileReading}

read_of_own : (ended : Bool) (bytes : List ℕ) → IsReadOf ended bytes bytes
read_of_own true bytes = refl
read_of_own false bytes = take-length bytes

own : (reading : FileReading) → IsReadIn reading (Some reading.bytes)
own reading = read_of_own reading.ended reading.bytes

same_name : (name : List ℕ) → bytes_eq name name ≡ true
same_name name = (bytes_eq-Decides name name).1 refl

-- a reading agrees with files of which the first is its own
first_own : (reading : FileReading) (files : List (List ℕ × List ℕ)) → IsReadIn reading (bytes_of reading.name ((reading.name, reading.bytes) ∷ files))
first_own reading files = subst (IsReadIn reading) (sym (ap (λ (t : Bool). if t then Some reading.bytes else bytes_of reading.name files) (same_name reading.name))) (own reading)

-- a file of a name that is not read yet changes nothing for those that are
past : (b : Bool) (reading : FileReading) (bytes : List ℕ) (o : Option (List ℕ)) → (b ≡ true → ⊥) → IsReadIn reading o → IsReadIn reading (if b then Some bytes else o)
past true reading bytes o never h = absurd (never refl)
past false reading bytes o never h = h

absent : (name other : List ℕ) (bytes : List ℕ) (files : List (List ℕ × List ℕ)) → bytes_of name ((other, bytes) ∷ files) ≡ None → bytes_eq other name ≡ true → ⊥
absent name other bytes files none same = none-some bytes (sym none ∙ ap (λ (t : Bool). if t then Some bytes else bytes_of name files) same)

absent_later : (name other : List ℕ) (bytes : List ℕ) (files : List (List ℕ × List ℕ)) → bytes_of name ((other, bytes) ∷ files) ≡ None → bytes_of name files ≡ None
absent_later name other bytes files none = go (bytes_eq other name) refl
  where
    go : (b : Bool) → bytes_eq other name ≡ b → bytes_of name files ≡ None
    go true e = absurd (absent name other bytes files none e)
    go false e = sym (ap (λ (t : Bool). if t then Some bytes else bytes_of name files) e) ∙ none

agree_on : (name bytes : List ℕ) (files : List (List ℕ × List ℕ)) (given : List FileReading) → bytes_of name (files_of given) ≡ None → Agree given files → Agree given ((name, bytes) ∷ files)
agree_on name bytes files [] none agree = tt
agree_on name bytes files (r ∷ rs) none agree = (
  past (bytes_eq name r.name) r bytes (bytes_of r.name files) (λ e. absent name r.name r.bytes (files_of rs) none (turned e)) agree.0,
  agree_on name bytes files rs (absent_later name r.name r.bytes (files_of rs) none) agree.1,
)
  where
    turned : bytes_eq name r.name ≡ true → bytes_eq r.name name ≡ true
    turned e = (bytes_eq-Decides r.name name).1 (sym ((bytes_eq-Decides name r.name).0 e))

pub own_agree : (given : List FileReading) → AreOnce given → Agree given (files_of given)
own_agree [] once = tt
own_agree (r ∷ rs) once = (first_own r (files_of rs), agree_on r.name r.bytes (files_of rs) rs once.0 (own_agree rs once.1))
