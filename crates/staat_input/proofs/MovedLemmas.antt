-- A moved piece is a piece, and there is one.
use Rattle.std.proofs.Common.{ℕ, zero, suc, List, [], ◌∷◌, All, Ok, Err, refl, ap, subst, arith}
use Rattle.std.proofs.lemmas.List.Elements.{All-head, All-tail}
use Rattle.staat_vec.specs.declared.vector.TheConstants.{POINT}
use Rattle.staat_vec.specs.declared.vector.V3.{V3}
use Rattle.staat_vec.specs.Vectors.{IsWithin, plus}
use Rattle.staat_asm.specs.Placing.{IsPlaced, IsPlacedFar, shifted}
use Rattle.staat_fault.specs.declared.fault.Fault.TheVariants.{PlacedFar}
use Rattle.staat_input.specs.Moved.{MovesPiece, moved, too_far}

-- the call moved it
pub moves_there : (name : List ℕ) (at : V3) (points placed : List V3) → IsPlaced at points placed → MovesPiece name at points (Ok placed)
moves_there name at points placed h = moved h.within (ap Ok h.is)

-- the call refused it
pub moves_far : (name : List ℕ) (at : V3) (points : List V3) → IsPlacedFar at points → MovesPiece name at points (Err (PlacedFar name))
moves_far name at points h = too_far h refl

-- a piece that is placed too far is not within
pub far_not_within : (at : V3) (points : List V3) → IsPlacedFar at points → All (IsWithin POINT) (shifted at points) → ⊥
far_not_within at [] (k, p, lt, is, far) all = absurd (omega (arith, lt))
far_not_within at (q ∷ points) (zero, p, lt, is, far) all =
    far (subst (λ x. IsWithin POINT (plus x at)) is (All-head (IsWithin POINT) (plus q at) (shifted at points) all))
far_not_within at (q ∷ points) (suc k, p, lt, is, far) all =
    far_not_within at points (k, p, omega (arith, lt), is, far) (All-tail (IsWithin POINT) (plus q at) (shifted at points) all)
