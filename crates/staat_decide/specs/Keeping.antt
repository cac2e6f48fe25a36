-- Facets of pairs of pieces that are kept to be asked for again.
use Rattle.std.specs.Prelude.{◌≡◌, ◌⊎◌, ℕ, List, All, IfSome, Option, Some}
use Rattle.staat_vec.specs.declared.vector.TheConstants.{NORMAL}
use Rattle.staat_vec.specs.declared.vector.V3.{V3}
use Rattle.staat_vec.specs.Vectors.{IsWithin}
use Rattle.staat_model.specs.declared.assembly.Part.{Part}
use Rattle.staat_model.specs.declared.certificate.Arc.{Arc}
use Rattle.staat_model.specs.Removal.{MeetsAlong}
use Rattle.staat_motion.specs.Motions.{HasFacets, turned}
use Rattle.staat_decide.specs.declared.table.KeptFacets.{KeptFacets}

-- the facets are those of the pair
pub record IsKept (parts : List Part) (kept : KeptFacets) : Type 0 where
  pub facets : HasFacets parts kept.pair kept.facets
  pub small : All (IsWithin NORMAL) kept.facets

-- so for each slot that is not empty
abbrev pub AreKept : List Part → List (Option KeptFacets) → Type 0
AreKept parts slots = All (λ slot. IfSome slot (IsKept parts)) slots

-- the slot has the pair
pub record KeepsPair (slot : Option KeptFacets) (pair : Arc) : Type 0 where
  pub kept : KeptFacets
  pub is : slot ≡ Some kept
  pub same : kept.pair ≡ pair

-- the two pieces, in one order or the other
abbrev pub IsEitherOrder : Arc → Arc → Type 0
IsEitherOrder pair key = (key ≡ pair) ⊎ (key ≡ turned pair)

-- the piece i of the part a meets along d some piece of the part b
pub record MeetsSome (parts : List Part) (d : V3) (a i b : ℕ) : Type 0 where
  pub j : ℕ
  pub meets : MeetsAlong parts d (record { a = a; i = i; b = b; j = j })
