-- The solids that a drawing is made of: the points and faces of the files, as they were read.
use Rattle.std.specs.Prelude.{◌≡◌, ◌+◌, ◌++◌, ◌≤◌, ℕ, List, [], ◌∷◌, map, length, All}
use Rattle.std.specs.Prelude.{Bool, true, Option, Some, None, Result, Ok, Err}
use Rattle.staat_vec.specs.declared.vector.V3.{V3}
use Rattle.staat_off.specs.declared.raw.Raw.{Raw}
use Rattle.staat_off.specs.declared.refusal.OffRefusal.{OffRefusal}
use Rattle.staat_off.specs.Raws.{IsCounted}
use Rattle.staat_off.specs.Reading.{reading}
use Rattle.staat_edge.specs.Files.{bytes_of}
use Rattle.staat_edge.specs.Fitting.{Fit}
use Rattle.staat_edge.specs.Told.{ShelfTold}
use Rattle.staat_manifest.specs.declared.listing.ListedPart.{ListedPart}
use Rattle.staat_words.specs.declared.request.Asked.{Asked}
use Rattle.staat_explode.specs.declared.scene.Solid.{Solid}
use Rattle.staat_explode.specs.Sizes.{IsSolidIn}
use Rattle.staat_input.specs.declared.read.Drawn.{Drawn}
use Rattle.staat_input.specs.declared.sketch.Sketch.{Sketch}
use Rattle.staat_input.specs.declared.limits.Limits.{Limits}
use Rattle.staat_input.specs.declared.limits.TheConstants.Limits.{ASSEMBLY}
use Rattle.staat_input.specs.Work.{Files, Found}
use Rattle.staat_input.specs.Inputs.{IsListingOfWithin}

-- the piece of what was read
abbrev pub piece_found : Found Drawn → Found (List V3)
piece_found (Ok drawn) = Ok drawn.piece
piece_found (Err fault) = Err fault

abbrev pub nothing_drawn : Raw
nothing_drawn = record { points = []; faces = [] }

-- the points and faces that were read, and none where there is a refusal
abbrev pub raw_read : Result Raw OffRefusal → Raw
raw_read (Ok raw) = raw
raw_read (Err refusal) = nothing_drawn

-- those that the bytes of a file hold, with coordinates scaled by so many decimal digits; none where there is no file
abbrev pub raw_in : ℕ → Option (List ℕ) → Raw
raw_in digits (Some bytes) = raw_read (reading digits bytes)
raw_in digits None = nothing_drawn

-- the solid of a piece: the points and faces of its file, with the number and the vector of its part
abbrev pub solid_of : Files → ℕ → ℕ → V3 → List ℕ → Solid
solid_of files digits part at name =
    record { part = part; at = at; raw = raw_in digits (bytes_of name files) }

-- those of the pieces of a part, in their order
abbrev pub solids_of_part : Files → ℕ → ℕ → ListedPart → List Solid
solids_of_part files digits part named = map (solid_of files digits part named.at) named.pieces

-- those of parts that are numbered from `part` on
abbrev pub solids_from : Files → ℕ → ℕ → List ListedPart → List Solid
solids_from files digits part [] = []
solids_from files digits part (named ∷ more) =
    solids_of_part files digits part named ++ solids_from files digits (part + 1) more

-- the solids of all parts: one for each piece, in the order in which their files are named
abbrev pub solids_of : Files → ℕ → List ListedPart → List Solid
solids_of files digits named = solids_from files digits 0 named

-- a sketch that keeps solids has these behind those that it had
pub record Drew (before after : Sketch) (more : List Solid) : Type 0 where
  pub keep : after.keep ≡ before.keep
  pub solids : before.keep ≡ true → after.solids.items ≡ before.solids.items ++ more

-- the input names these parts; and the sketch has the solids of all of them, if it is to keep them
pub record IsDrawnWithin (limits : Limits) (files : Files) (asked : Asked) (keep : Bool)
    (sketch : Sketch) : Type 0 where
  pub named : List ListedPart
  pub listed : IsListingOfWithin limits files asked.input (Ok named)
  pub solids : keep ≡ true → sketch.solids.items ≡ solids_of files asked.digits named

-- the same for an assembly
abbrev pub IsDrawn : Files → Asked → Bool → Sketch → Type 0
IsDrawn files asked keep sketch = IsDrawnWithin ASSEMBLY files asked keep sketch

-- no more solids than so many, each of one of so many parts, and none with more points or faces than a count can tell
pub record AreSmall (parts most : ℕ) (solids : List Solid) : Type 0 where
  pub placed : All (IsSolidIn parts) solids
  pub counted : All (λ s. IsCounted s.raw) solids
  pub few : length solids ≤ most

-- The sketch grew by these solids, as the files have them that fit, and by so many at most; that many parts there are.
pub record SketchGrows (Adds : Files → List Solid) (least count : ℕ) (told : ShelfTold)
    (before after : Sketch) : Type 0 where
  pub drew : (files : Files) → Fit told files → Drew before after (Adds files)
  pub small : (parts most : ℕ) → least ≤ parts → AreSmall parts most before.solids.items →
      AreSmall parts (most + count) after.solids.items
