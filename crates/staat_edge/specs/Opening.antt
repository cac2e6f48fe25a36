-- Which files were opened, in which order.
use Rattle.std.specs.Prelude.{◌≡◌, ◌⊎◌, ℕ, Bool, true, false, List, [], ◌∷◌}
use Rattle.staat_edge.specs.Readings.{FileReading}
use Rattle.staat_edge.specs.Told.{ShelfTold}

-- the readings now are those before and one of each of these files, in their order
abbrev pub OpensAll : List (List ℕ) → List FileReading → List FileReading → Type 0
OpensAll [] before now = now ≡ before
OpensAll (name ∷ names) before now =
    (reading : FileReading) × (reading.name ≡ name) × OpensAll names (reading ∷ before) now

-- the same of some of these files, from the front: of none, or of all too
abbrev pub OpensSome : List (List ℕ) → List FileReading → List FileReading → Type 0
OpensSome [] before now = now ≡ before
OpensSome (name ∷ names) before now = (now ≡ before) ⊎
    ((reading : FileReading) × (reading.name ≡ name) × OpensSome names (reading ∷ before) now)

-- each of these files was opened once, in their order; or, where the work came to no end, some of them from the front
abbrev pub Opens : Bool → List (List ℕ) → List FileReading → List FileReading → Type 0
Opens true names before now = OpensAll names before now
Opens false names before now = OpensSome names before now

-- the same of what a shelf tells before the work and after it
abbrev pub OpensFiles : Bool → List (List ℕ) → ShelfTold → ShelfTold → Type 0
OpensFiles ends names before now = Opens ends names before.given now.given
