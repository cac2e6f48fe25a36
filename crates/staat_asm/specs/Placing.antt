-- Pieces that are moved by a vector.
use Rattle.std.specs.Prelude.{◌≡◌, List, All, Any, map}
use Rattle.staat_vec.specs.declared.vector.V3.{V3}
use Rattle.staat_vec.specs.declared.vector.TheConstants.{POINT}
use Rattle.staat_vec.specs.Vectors.{IsWithin, plus}
use Rattle.staat_asm.specs.declared.placing.PlaceRefusal.{PlaceRefusal}
use Rattle.staat_asm.specs.declared.placing.PlaceRefusal.TheVariants as refusal

-- each point plus the vector, in the same order
abbrev pub shifted : V3 → List V3 → List V3
shifted at points = map (λ p. plus p at) points

-- a point plus the vector has a component that is too great
abbrev pub IsTooFar : V3 → V3 → Type 0
IsTooFar at p = IsWithin POINT (plus p at) → ⊥

-- some point does
abbrev pub IsPlacedFar : V3 → List V3 → Type 0
IsPlacedFar at points = Any (IsTooFar at) points

-- the moved piece, none of whose points is too far out
pub record IsPlaced (at : V3) (points placed : List V3) : Type 0 where
  pub is : placed ≡ shifted at points
  pub within : All (IsWithin POINT) (shifted at points)

abbrev pub IsPlaceRefusal : V3 → List V3 → PlaceRefusal → Type 0
IsPlaceRefusal at points refusal.PlacedFar = IsPlacedFar at points
IsPlaceRefusal at points refusal.OutOfMemory = Unit {0}
