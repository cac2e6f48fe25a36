-- What calls answer of a reading.
use Rattle.std.specs.Prelude.{◌≡◌, Result, Ok, Err}
use Rattle.staat_off.specs.declared.refusal.OffRefusal.{OffRefusal}
use Rattle.staat_off.specs.declared.refusal.OffRefusal.TheVariants.{OutOfMemory}
use Rattle.staat_off.specs.Scan.{Rest}

-- the value and what is left of the file, or the refusal
abbrev pub Reads : {X Y : Type 0} →
    (X → Y) → Result X OffRefusal → Rest → Result (Y × Rest) OffRefusal → Type 0
Reads view (Ok x) rest reading = reading ≡ Ok (view x, rest)
Reads view (Err refusal) rest reading = reading ≡ Err refusal

-- the refusal, unless memory ran out
abbrev pub Refuses : {Y : Type 0} → OffRefusal → Result Y OffRefusal → Type 0
Refuses OutOfMemory reading = Unit {0}
Refuses refusal reading = reading ≡ Err refusal

-- the same of a call that takes memory
abbrev pub Gives : {X Y : Type 0} →
    (X → Y) → Result X OffRefusal → Rest → Result (Y × Rest) OffRefusal → Type 0
Gives view (Ok x) rest reading = reading ≡ Ok (view x, rest)
Gives view (Err refusal) rest reading = Refuses refusal reading

-- what the reading gives, unless memory ran out
abbrev pub Answers : {X : Type 0} → Result X OffRefusal → Result X OffRefusal → Type 0
Answers (Ok x) reading = reading ≡ Ok x
Answers (Err refusal) reading = Refuses refusal reading
