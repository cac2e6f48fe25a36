-- The side of all parts that begins to move, or that there is none.
use Rattle.std.specs.Prelude.{◌≡◌, ℕ, List, Option, None, Some, nat_lt, if◌then◌else◌, Ok}
use Rattle.std.specs.FinSet as set
use Rattle.staat_model.specs.declared.assembly.Part.{Part}
use Rattle.staat_model.specs.declared.set.PartSet.{PartSet}
use Rattle.staat_local.specs.declared.side.Loose.{Loose}
use Rattle.staat_local.specs.Beginnings.{IsFoundIn, IsTight}
use Rattle.staat_local.specs.LocalTexts.{local_text}
use Rattle.staat_input.specs.declared.answer.Answer.{Answer}
use Rattle.staat_input.specs.Counting.{all_parts, AreCounted}
use Rattle.staat_input.specs.Work.{Found, Files, Then}
use Rattle.staat_model.specs.Plans.{IsStuck}
use Rattle.staat_words.specs.declared.request.LocalRequest.{LocalRequest}
use Rattle.staat_input.specs.Assembling.{IsSoundOf, AreSoundParts}

-- 1 where no side of at least two parts begins to move, and else 0
abbrev pub local_status : PartSet → Option Loose → ℕ
local_status w (Some loose) = 0
local_status w None = if nat_lt (set.len w) 2 then 0 else 1

-- the answer for what is found of a set of parts
abbrev pub local_answer : PartSet → Option Loose → Answer
local_answer w begins = record { status = local_status w begins; text = local_text w begins }

-- The last step for a beginning: what is found of all parts, written.
pub record IsBegun (parts : List Part) (found : Found Answer) : Type 0 where
  pub begins : Option Loose
  pub is_found : IsFoundIn parts (all_parts parts) begins
  pub is : found ≡ Ok (local_answer (all_parts parts) begins)

-- what it finds for sound parts: their planes are counted, and then the side that begins to move is told
abbrev pub IsCountedBeginning : ℕ → List Part → Found Answer → Type 0
IsCountedBeginning limit parts found = Then (AreCounted parts limit) (λ planes. IsBegun parts) found

-- what the work on `local` finds
abbrev pub LocalWork : LocalRequest → Files → Found Answer → Type 0
LocalWork request files found =
    Then (IsSoundOf files request.asked) (λ parts. Then (AreCounted parts request.planes)
    (λ planes. IsBegun parts)) found

-- the text says which side of all parts begins to move, or that there is one part alone; the parts are not tight
pub record SaysBeginning (files : Files) (request : LocalRequest) (text : List ℕ) : Type 0 where
  pub parts : List Part
  pub sound : AreSoundParts files request.asked parts
  pub begins : Option Loose
  pub is_found : IsFoundIn parts (all_parts parts) begins
  pub not_tight : IsTight parts (all_parts parts) → ⊥
  pub says : text ≡ local_text (all_parts parts) begins

-- the text says that no side of all parts begins to move, so that they are stuck
pub record SaysTight (files : Files) (request : LocalRequest) (text : List ℕ) : Type 0 where
  pub parts : List Part
  pub sound : AreSoundParts files request.asked parts
  pub is_tight : IsTight parts (all_parts parts)
  pub is_stuck : IsStuck parts (all_parts parts)
  pub says : text ≡ local_text (all_parts parts) None
