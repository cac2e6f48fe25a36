-- The first open cell of planes: its directions are on the negative side of each plane.
use Rattle.std.specs.Prelude.{◌≡◌, ◌≢◌, ◌⊎◌, ℕ, ◌<◌, ◌<ℤ◌, ◌≤ℤ◌, pos, List, All, Contains, Some, map, slice_get}
use Rattle.staat_vec.specs.declared.vector.V3.{V3}
use Rattle.staat_vec.specs.declared.vector.Sign.{Sign}
use Rattle.staat_vec.specs.declared.vector.Sign.TheVariants.{Neg}
use Rattle.staat_vec.specs.declared.vector.TheConstants.{EDGE, VERTEX}
use Rattle.staat_vec.specs.Vectors.{IsWithin, cross, dot, origin}
use Rattle.staat_model.specs.declared.tree.Kind.TheVariants.{Open}
use Rattle.staat_model.specs.Cells.{CellEntry, IsEdgeSum, signs_of}
use Rattle.staat_cells.specs.declared.first_cell.Ends.{Ends}
use Rattle.staat_cells.specs.declared.first_cell.LowEdge.{LowEdge}

-- the sign Neg at each plane
abbrev pub all_negative : List V3 → List Sign
all_negative planes = map (λ n. Neg) planes

-- the first open cell, as it is listed
abbrev pub first_entry : List V3 → V3 → CellEntry
first_entry planes d = record { kind = Open; d = d; signs = all_negative planes }

-- d is on the plane g, and on the negative side of each other plane
pub record IsLowOn (planes : List V3) (g d : V3) : Type 0 where
  pub on : dot g d ≡ pos 0
  pub below : (m : V3) → Contains planes m → (m ≡ g) ⊎ (dot m d <ℤ pos 0)

-- no direction is
abbrev pub HasNoLow : List V3 → V3 → Type 0
HasNoLow planes g = (d : V3) → IsLowOn planes g d → ⊥

-- neither end is on the positive side of the plane m
pub record AreNotAbove (e : Ends) (m : V3) : Type 0 where
  pub first : dot m e.first ≤ℤ pos 0
  pub second : dot m e.second ≤ℤ pos 0

-- the directions in which the plane g crosses a and b
abbrev pub arc_ends : (g a b : V3) → Ends
arc_ends g a b = record { first = cross g a; second = cross b g }

-- On the plane g the ends of what is on the positive side of none of the planes that were passed: the directions in
-- which g crosses a and b, each on the negative side of the other.
pub record AreArcEnds (planes : List V3) (g : V3) (passed : List V3) (e : Ends) : Type 0 where
  pub a : V3
  pub b : V3
  pub a_in : Contains planes a
  pub b_in : Contains planes b
  pub is : e ≡ arc_ends g a b
  pub turn : dot b (cross g a) <ℤ pos 0
  pub first_size : IsWithin VERTEX e.first
  pub second_size : IsWithin VERTEX e.second
  pub passed_are : All (AreNotAbove e) passed

-- d is the representative of the edge of the plane g on the border of the first open cell
pub record IsLowEdge (planes : List V3) (g d : V3) : Type 0 where
  pub low : IsLowOn planes g d
  pub some : d ≢ origin
  pub size : IsWithin EDGE d
  pub sum : IsEdgeSum planes (signs_of planes d) d

-- none of the planes before the end has such an edge
abbrev pub HasNoLowEdge : List V3 → ℕ → Type 0
HasNoLowEdge planes end = (k : ℕ) (g : V3) → k < end → slice_get planes k ≡ Some g → HasNoLow planes g

-- the edge is that of the last plane before the end that has one
pub record IsLastLowEdge (planes : List V3) (end : ℕ) (e : LowEdge) : Type 0 where
  pub g : V3
  pub before : e.place < end
  pub at : slice_get planes e.place ≡ Some g
  pub edge : IsLowEdge planes g e.d
  pub later : (k : ℕ) (h : V3) → e.place < k → k < end → slice_get planes k ≡ Some h → HasNoLow planes h
