-- Pieces of different parts that overlap, and what a search for the first of them answers.
use Rattle.std.specs.Prelude.{◌≡◌, ◌<◌, ℕ, List, Result, Ok, Err}
use Rattle.staat_vec.specs.Lists.{IsLeast}
use Rattle.staat_vec.specs.Vectors.{origin}
use Rattle.staat_model.specs.declared.assembly.Part.{Part}
use Rattle.staat_model.specs.declared.certificate.Arc.{Arc}
use Rattle.staat_model.specs.Assemblies.{HoldsAt}
use Rattle.staat_model.specs.Certificates.{arc_cmp}
use Rattle.staat_model.specs.Meeting.{Overlap}
use Rattle.staat_motion.specs.Motions.{Motion, IsMotionOf}
use Rattle.staat_asm.specs.declared.refusal.AsmRefusal.{AsmRefusal}
use Rattle.staat_asm.specs.declared.refusal.AsmRefusal.TheVariants as refusal

-- the two pieces of the arc overlap, and its first part has the lower number
abbrev pub IsOverlap : List Part → Arc → Type 0
IsOverlap parts arc = (arc.a < arc.b) × HoldsAt parts arc Overlap

-- the same, by the first part, by its piece, and by the second part
abbrev pub IsOverlapOfPart : List Part → ℕ → Arc → Type 0
IsOverlapOfPart parts a arc = IsOverlap parts arc × (arc.a ≡ a)

abbrev pub IsOverlapOfPiece : List Part → ℕ → ℕ → Arc → Type 0
IsOverlapOfPiece parts a i arc = IsOverlapOfPart parts a arc × (arc.i ≡ i)

abbrev pub IsOverlapWithPart : List Part → ℕ → ℕ → ℕ → Arc → Type 0
IsOverlapWithPart parts a i b arc = IsOverlapOfPiece parts a i arc × (arc.b ≡ b)

-- the first arc whose pieces overlap: no lesser one does, by a, then i, then b, then j
abbrev pub IsFirstOverlap : List Part → Arc → Type 0
IsFirstOverlap parts arc = IsLeast arc_cmp (IsOverlap parts) arc

-- what is kept of these parts for no direction at all: pieces that meet so overlap
pub record IsAtRest (parts : List Part) (boxes : Motion) : Type 0 where
  pub made : IsMotionOf parts boxes
  pub still : boxes.d ≡ origin

-- the answer of a search: that no arc has P, or a refusal that names the least that has
abbrev pub Searches : {X : Type 0} → (Arc → Type 0) → Result X AsmRefusal → Type 0
Searches P (Ok done) = (arc : Arc) → P arc → ⊥
Searches P (Err (refusal.Overlap a i b j)) = IsLeast arc_cmp P (record { a = a; i = i; b = b; j = j })
Searches P (Err refusal.OutOfMemory) = Unit {0}
