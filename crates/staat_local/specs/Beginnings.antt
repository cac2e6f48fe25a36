-- Moves that begin: the sides of a set of parts that no contact holds, and the one that is chosen.
use Rattle.std.specs.Prelude.{◌⊎◌, ◌<◌, ◌≤◌, ℕ, pos, ◌<ℤ◌, List, Bool, All, Option, None, Some}
use Rattle.std.specs.FinSet as set
use Rattle.staat_vec.specs.declared.vector.V3.{V3}
use Rattle.staat_vec.specs.Lists.{IsFirst}
use Rattle.staat_vec.specs.Vectors.{dot}
use Rattle.staat_model.specs.declared.assembly.Part.{Part}
use Rattle.staat_model.specs.declared.set.PartSet.{PartSet}
use Rattle.staat_model.specs.Outcomes.{IsMovedSideBy, ServesBy}
use Rattle.staat_model.specs.Planes.{ArePlanes, vertices}
use Rattle.staat_model.specs.Plans.{IsStuckBy}
use Rattle.staat_model.specs.Removal.{BlocksBy, IsFreeBy}
use Rattle.staat_model.specs.Sets.{Has}
use Rattle.staat_pairs.specs.Searches.{arc_of}
use Rattle.staat_pairs.specs.Tables.{IsTableArc, Table, facets_of, slot}
use Rattle.staat_local.specs.declared.side.Loose.{Loose}
use Rattle.staat_local.specs.Contacts.{Starts}
use Rattle.staat_local.specs.Touching.{IsPairMarked}

-- the parts of s begin to move along d: no piece of the one collides at once with a piece of r
abbrev pub IsLoose : List Part → (s r : PartSet) → V3 → Type 0
IsLoose = IsFreeBy Starts

-- the set has at least two parts, and no side of it begins to move away from the rest along any direction
abbrev pub IsTight : List Part → PartSet → Type 0
IsTight = IsStuckBy Starts

-- along d some side of w begins to move away from the rest
abbrev pub Loosens : List Part → PartSet → V3 → Type 0
Loosens = ServesBy Starts

-- a and b are parts of w, and some piece of a collides at once with some piece of b where it moves along d
pub record HoldsBack (parts : List Part) (w : PartSet) (d : V3) (a b : ℕ) : Type 0 where
  pub a_in : Has w a
  pub b_in : Has w b
  pub starts : BlocksBy Starts parts d a b

-- the chosen beginning: the first vertex of the planes of w along which some side begins to move, and the side that
-- does
pub record IsBeginning (parts : List Part) (w : PartSet) (loose : Loose) : Type 0 where
  pub planes : List V3
  pub planes_are : ArePlanes parts w planes
  pub first : IsFirst (Loosens parts w) (vertices planes) loose.d
  pub moved : IsMovedSideBy Starts parts w loose.d loose.side

-- what is found of a set: its chosen beginning, or none where the set is tight or a part alone
abbrev pub IsFoundIn : List Part → PartSet → Option Loose → Type 0
IsFoundIn parts w (Some loose) = (2 ≤ set.len w) × IsBeginning parts w loose
IsFoundIn parts w None = (set.len w < 2) ⊎ IsTight parts w

-- ---- in a table whose touching pairs are marked

-- some piece of the part a touches some piece of the part b, and d leads ahead of all facets of the two
pub record HoldsBetween (t : Table) (marks : List Bool) (d : V3) (a b : ℕ) : Type 0 where
  pub i : ℕ
  pub j : ℕ
  pub across : IsTableArc t (arc_of a i b j)
  pub marked : IsPairMarked marks (slot t.pieces (arc_of a i b j))
  pub ahead : All (λ n. pos 0 <ℤ dot n d) (facets_of t (arc_of a i b j))
