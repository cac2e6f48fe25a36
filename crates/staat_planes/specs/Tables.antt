-- What a table of planes tells of a set of parts: its planes, and the arcs of the blocking graph at a direction.
use Rattle.std.specs.Prelude.{◌≡◌, ◌⊎◌, ◌↔◌, ℕ, pos, ◌<ℤ◌, List, All, Contains}
use Rattle.staat_vec.specs.declared.vector.V3.{V3}
use Rattle.staat_vec.specs.Vectors.{dot}
use Rattle.staat_model.specs.declared.assembly.Part.{Part}
use Rattle.staat_model.specs.declared.set.PartSet.{PartSet}
use Rattle.staat_model.specs.Planes.{IsFacetPlane, axes}
use Rattle.staat_model.specs.Removal.{Blocks}
use Rattle.staat_model.specs.Sets.{Has}
use Rattle.staat_graph.specs.Graphs.{HasArc}
use Rattle.staat_pairs.specs.Searches.{arc_of}
use Rattle.staat_pairs.specs.Tables.{IsTableArc, Table, facets_of}

-- n is one of the planes of w
abbrev pub IsPlaneOf : List Part → PartSet → V3 → Type 0
IsPlaneOf parts w n = Contains axes n ⊎ IsFacetPlane parts w n

-- ---- the graph at a direction

-- d leads ahead of all facets of some piece of the part a against some piece of the part b
pub record IsAhead (t : Table) (d : V3) (a b : ℕ) : Type 0 where
  pub i : ℕ
  pub j : ℕ
  pub across : IsTableArc t (arc_of a i b j)
  pub ahead : All (λ n. pos 0 <ℤ dot n d) (facets_of t (arc_of a i b j))

-- the same of two parts of w
pub record IsAheadIn (t : Table) (w : PartSet) (d : V3) (a b : ℕ) : Type 0 where
  pub a_in : Has w a
  pub b_in : Has w b
  pub ahead : IsAhead t d a b

-- the rows have got the arcs of R between the part a and the parts of which P holds
abbrev pub GainsArcs : (R : ℕ → ℕ → Type 0) (a : ℕ) (P : ℕ → Type 0) (old new : List ℕ) → Type 0
GainsArcs R a P old new =
    (x y : ℕ) → HasArc new x y ↔ (HasArc old x y ⊎ (R x y × (((x ≡ a) × P y) ⊎ ((y ≡ a) × P x))))

-- an arc of the blocking graph at d between parts of w
pub record BlocksIn (parts : List Part) (w : PartSet) (d : V3) (a b : ℕ) : Type 0 where
  pub a_in : Has w a
  pub b_in : Has w b
  pub blocks : Blocks parts d a b
