-- What a search for two pieces that meet finds.
use Rattle.std.specs.Prelude.{◌≡◌, ℕ, List, Contains, Option, None, Some}
use Rattle.staat_vec.specs.declared.vector.V3.{V3}
use Rattle.staat_vec.specs.Lists.{IsLeast}
use Rattle.staat_model.specs.declared.assembly.Part.{Part}
use Rattle.staat_model.specs.declared.certificate.Arc.{Arc}
use Rattle.staat_model.specs.Certificates.{arc_cmp}
use Rattle.staat_model.specs.Removal.{MeetsAlong}

-- nothing has P, or the answer is the least that has it
abbrev pub FindsLeast : (P : Arc → Type 0) → Option Arc → Type 0
FindsLeast P None = (arc : Arc) → P arc → ⊥
FindsLeast P (Some arc) = IsLeast arc_cmp P arc

-- a piece of a part of the one list meets along d one of a part of the other
pub record MeetsBetween (parts : List Part) (d : V3) (moved rest : List ℕ) (arc : Arc) : Type 0 where
  pub from : Contains moved arc.a
  pub to : Contains rest arc.b
  pub meets : MeetsAlong parts d arc

-- a piece of the part a does so
abbrev pub MeetsFrom : List Part → V3 → ℕ → List ℕ → Arc → Type 0
MeetsFrom parts d a rest arc = (arc.a ≡ a) × Contains rest arc.b × MeetsAlong parts d arc

-- the piece i of it does
abbrev pub MeetsFromPiece : List Part → V3 → (a i : ℕ) → List ℕ → Arc → Type 0
MeetsFromPiece parts d a i rest arc = (arc.a ≡ a) × (arc.i ≡ i) × Contains rest arc.b × MeetsAlong parts d arc

-- and meets one of the part b
abbrev pub MeetsTo : List Part → V3 → (a i b : ℕ) → Arc → Type 0
MeetsTo parts d a i b arc = (arc.a ≡ a) × (arc.i ≡ i) × (arc.b ≡ b) × MeetsAlong parts d arc
