-- The cells into which planes cut the directions: the arrangement of great circles of Halperin, Latombe and Wilson
-- (2000).
use Rattle.std.specs.Prelude.{◌≡◌, ◌≢◌, ◌⊎◌, ℕ, zero, suc, Bool, true, false, List, [], ◌∷◌}
use Rattle.std.specs.Prelude.{◌++◌, map, All, Contains}
use Rattle.std.specs.Prelude.{count_by, slice_get, Some}
use Rattle.std.specs.Ordering.{nat_cmp}
use Rattle.std.specs.declared.cmp.Ordering.{Ordering}
use Rattle.std.specs.Cmp.Lexicographic.{slice_cmp}
use Rattle.staat_vec.specs.declared.vector.V3.{V3}
use Rattle.staat_vec.specs.declared.vector.Sign.{Sign}
use Rattle.staat_vec.specs.declared.vector.Sign.TheVariants.{Neg, Zero, Pos}
use Rattle.staat_vec.specs.Vectors.{origin, plus, dot, sign, vector_cmp}
use Rattle.staat_model.specs.declared.tree.Kind.{Kind}
use Rattle.staat_model.specs.declared.tree.Kind.TheVariants.{Point, Edge, Open}
use Rattle.staat_vec.specs.Lists.{IsFirst, IsLeast, Lists}
use Rattle.staat_model.specs.Planes.{vertices}

-- on which side of each plane the direction lies
abbrev pub signs_of : List V3 → V3 → List Sign
signs_of planes d = map (λ n. sign (dot n d)) planes

-- where a sign stands in the order of the signs
abbrev pub sign_place : Sign → ℕ
sign_place Neg = 0
sign_place Zero = 1
sign_place Pos = 2

-- Neg, then Zero, then Pos; lists of signs by the first place at which they differ
abbrev pub signs_cmp : List Sign → List Sign → Ordering
signs_cmp = slice_cmp (λ s t. nat_cmp (sign_place s) (sign_place t))

abbrev pub is_zero : Sign → Bool
is_zero Neg = false
is_zero Zero = true
is_zero Pos = false

-- no plane, one plane, or more
abbrev pub kind_by_count : ℕ → Kind
kind_by_count zero = Open
kind_by_count (suc zero) = Edge
kind_by_count (suc (suc n)) = Point

-- the kind of the cell with these signs, by the number of planes that it lies on
abbrev pub kind_of : List Sign → Kind
kind_of s = kind_by_count (count_by is_zero s)

-- some direction other than zero has these signs
pub record IsCell (planes : List V3) (s : List Sign) : Type 0 where
  pub d : V3
  pub nonzero : d ≢ origin
  pub is : signs_of planes d ≡ s

-- the cell with the signs f lies on the border of the one with the signs s, or is that cell: f differs from s only
-- where it has Zero
abbrev pub IsBorder : List Sign → List Sign → Type 0
IsBorder [] [] = Unit {0}
IsBorder [] (t ∷ s) = ⊥
IsBorder (g ∷ f) [] = ⊥
IsBorder (g ∷ f) (t ∷ s) = ((g ≡ t) ⊎ (g ≡ Zero)) × IsBorder f s

-- v is a vertex at an end of the edge with the signs s
pub record IsEnd (planes : List V3) (s : List Sign) (v : V3) : Type 0 where
  pub vertex : Contains (vertices planes) v
  pub border : IsBorder (signs_of planes v) s

-- the representative of an edge: the sum of its two end vertices
pub record IsEdgeSum (planes : List V3) (s : List Sign) (d : V3) : Type 0 where
  pub u : V3
  pub v : V3
  pub ends : Lists vector_cmp (IsEnd planes s) (u ∷ v ∷ [])
  pub is : d ≡ plus u v

-- e has the signs of an edge on the border of the open cell with the signs s
pub record IsBorderEdge (planes : List V3) (s e : List Sign) : Type 0 where
  pub cell : IsCell planes e
  pub edge : kind_of e ≡ Edge
  pub border : IsBorder e s

-- the representative of an open cell: the sum of those of the first two edges on its border
pub record IsOpenSum (planes : List V3) (s : List Sign) (d : V3) : Type 0 where
  pub e : List Sign
  pub f : List Sign
  pub u : V3
  pub v : V3
  pub first : IsLeast signs_cmp (IsBorderEdge planes s) e
  pub second : IsLeast signs_cmp (λ g. IsBorderEdge planes s g × (g ≢ e)) f
  pub u_is : IsEdgeSum planes e u
  pub v_is : IsEdgeSum planes f v
  pub is : d ≡ plus u v

-- The representative of a cell. That of a point is the vertex with its signs, which may stand in the pair order
-- more than once.
abbrev pub IsRepresentative : Kind → List V3 → List Sign → V3 → Type 0
IsRepresentative Point planes s d = IsFirst (λ v. signs_of planes v ≡ s) (vertices planes) d
IsRepresentative Edge planes s d = IsEdgeSum planes s d
IsRepresentative Open planes s d = IsOpenSum planes s d

-- a cell as it is listed: its kind, its representative and its signs
pub record CellEntry : Type 0 where
  pub kind : Kind
  pub d : V3
  pub signs : List Sign

-- a cell of this kind with its representative
pub record IsEntry (planes : List V3) (kind : Kind) (c : CellEntry) : Type 0 where
  pub kind_is : c.kind ≡ kind
  pub by_count : kind_of c.signs ≡ kind
  pub cell : IsCell planes c.signs
  pub representative : IsRepresentative kind planes c.signs c.d

-- all cells of one kind, ascending by signs
pub record AreCellsOf (planes : List V3) (kind : Kind) (cells : List CellEntry) : Type 0 where
  pub each : All (IsEntry planes kind) cells
  pub signs : Lists signs_cmp (λ s. IsCell planes s × (kind_of s ≡ kind)) (map (λ c. c.signs) cells)

-- all points, then all edges, then all open cells
pub record AreCells (planes : List V3) (cells : List CellEntry) : Type 0 where
  pub points : List CellEntry
  pub edges : List CellEntry
  pub opens : List CellEntry
  pub points_are : AreCellsOf planes Point points
  pub edges_are : AreCellsOf planes Edge edges
  pub opens_are : AreCellsOf planes Open opens
  pub is : cells ≡ points ++ edges ++ opens

-- exactly one listed cell has the signs of d
pub record HasOneCell (planes : List V3) (cells : List CellEntry) (d : V3) : Type 0 where
  pub place : ℕ
  pub cell : CellEntry
  pub at : slice_get cells place ≡ Some cell
  pub is : cell.signs ≡ signs_of planes d
  pub only : (k : ℕ) (c : CellEntry) → slice_get cells k ≡ Some c → c.signs ≡ signs_of planes d
      → k ≡ place
