-- The sound assembly that an input gives, and the sound product.
use Rattle.std.specs.Prelude.{◌≡◌, List, Ok, Err, [], is_ok}
use Rattle.staat_model.specs.declared.assembly.Part.{Part}
use Rattle.staat_model.specs.declared.certificate.Arc.{Arc}
use Rattle.staat_model.specs.Assemblies.{IsSound, IsAssembly, IsProduct}
use Rattle.staat_asm.specs.Overlaps.{IsFirstOverlap}
use Rattle.staat_fault.specs.declared.fault.Fault.TheVariants.{Overlap}
use Rattle.staat_edge.specs.Told.{ShelfTold}
use Rattle.staat_words.specs.declared.request.Asked.{Asked}
use Rattle.staat_input.specs.declared.limits.Limits.{Limits}
use Rattle.staat_input.specs.declared.limits.TheConstants.Limits.{PRODUCT}
use Rattle.staat_input.specs.Causes.{MayName}
use Rattle.staat_input.specs.Opened.{OpensInput}
use Rattle.staat_input.specs.Taking.{TakesStep}
use Rattle.staat_input.specs.Work.{Files, Found, Then}
use Rattle.staat_input.specs.Inputs.{IsInputOf, IsInputOfWithin}

-- What the step finds that tests parts: the first pieces of different parts that overlap, or that none do.
pub data IsTested (parts : List Part) : Found (List Part) → Type 0 where
  overlapping : {found : Found (List Part)} (arc : Arc) → IsFirstOverlap parts arc →
      found ≡ Err (Overlap arc.a arc.i arc.b arc.j) → IsTested parts found
  sound : {found : Found (List Part)} → IsSound parts → found ≡ Ok parts → IsTested parts found

-- what the steps find that read the whole input and test it
abbrev pub IsSoundOf : Files → Asked → Found (List Part) → Type 0
IsSoundOf files asked = Then (IsInputOf files asked) IsTested

-- the input names these parts, each file holds its piece, they are an assembly, and no pieces of different parts
-- overlap
pub record AreSoundParts (files : Files) (asked : Asked) (parts : List Part) : Type 0 where
  pub named : IsInputOf files asked (Ok parts)
  pub assembly : IsAssembly parts
  pub sound : IsSound parts

-- what the steps find that read the whole input of a product and test it
abbrev pub IsSoundProductOf : Files → Asked → Found (List Part) → Type 0
IsSoundProductOf files asked = Then (IsInputOfWithin PRODUCT files asked) IsTested

-- the same of a product
pub record AreSoundProductParts (files : Files) (asked : Asked) (parts : List Part) : Type 0 where
  pub named : IsInputOfWithin PRODUCT files asked (Ok parts)
  pub product : IsProduct parts
  pub sound : IsSound parts

-- The call takes the step that reads the whole input, within these limits, and tests it.
abbrev pub ReadsSound : Limits → Asked → ShelfTold → ShelfTold → Found (List Part) → Type 0
ReadsSound limits asked before now result =
    TakesStep (λ files. Then (IsInputOfWithin limits files asked) IsTested)
    (λ found. OpensInput limits (is_ok found) asked.input [] before now) (MayName asked.input) before now result
