-- What a witness asks of the directions that name it.
use Rattle.std.specs.Prelude.{◌≡◌, ◌<◌, ℕ, ◌<ℤ◌, ◌++◌, []}
use Rattle.std.specs.Prelude.{Bool, false, true}
use Rattle.std.specs.Prelude.{pos, List, All, Contains, flat_map, length, map, Some, slice_get, slice_index_or}
use Rattle.staat_vec.specs.declared.vector.V3.{V3}
use Rattle.staat_vec.specs.declared.vector.TheConstants.{DIRECTION}
use Rattle.staat_vec.specs.Vectors.{IsWithin, dot, negative, origin}
use Rattle.staat_model.specs.declared.certificate.Dir.{Dir}
use Rattle.staat_model.specs.declared.certificate.Witness.{Witness}
use Rattle.staat_pairs.specs.Tables.{IsTableArc, Table, facets_of}

-- the normals of both sides of planes: those of the planes, and then their opposites
abbrev pub both_sides : List V3 → List V3
both_sides planes = planes ++ map negative planes

-- the arcs of the witness join parts of the table's set
pub record IsAcrossAll (t : Table) (witness : Witness) : Type 0 where
  pub outs : All (IsTableArc t) witness.outs
  pub ins : All (IsTableArc t) witness.ins

-- ---- facets by their numbers in a list of normals

-- the normal with this number is one of the facets
pub record IsNumbered (normals facets : List V3) (k : ℕ) : Type 0 where
  pub facet : V3
  pub at : slice_get normals k ≡ Some facet
  pub listed : Contains facets facet

-- one of the numbers is that of the normal n
pub record HasNumber (normals : List V3) (numbers : List ℕ) (n : V3) : Type 0 where
  pub number : ℕ
  pub listed : Contains numbers number
  pub at : slice_get normals number ≡ Some n

-- the numbers are those of the facets
pub record AreNumbers (normals facets : List V3) (numbers : List ℕ) : Type 0 where
  pub from : (k : ℕ) → Contains numbers k → IsNumbered normals facets k
  pub all : (n : V3) → Contains facets n → HasNumber normals numbers n

-- a list of numbers has also those of more facets
abbrev pub AddsNumbers : (normals more : List V3) → (old new : List ℕ) → Type 0
AddsNumbers normals more old new =
    (facets : List V3) → AreNumbers normals facets old → AreNumbers normals (facets ++ more) new

-- a vector or, if it is turned, its opposite
abbrev pub turned_if : Bool → V3 → V3
turned_if false v = v
turned_if true v = negative v

abbrev pub turned_all : Bool → List V3 → List V3
turned_all false vs = vs
turned_all true vs = map negative vs

-- ---- witnesses

-- the facets of the arcs of a witness, which a direction is to lead ahead of
abbrev pub asked_facets : Table → Witness → List V3
asked_facets t witness = flat_map (facets_of t) witness.outs ++ flat_map (facets_of t) witness.ins

-- the numbers of those facets
abbrev pub AreConditions : Table → (normals : List V3) → Witness → List ℕ → Type 0
AreConditions t normals witness numbers = AreNumbers normals (asked_facets t witness) numbers

-- a list for each of the first k witnesses
pub record AreLists (t : Table) (normals : List V3) (witnesses : List Witness) (k : ℕ) (lists : List (List ℕ))
    : Type 0 where
  pub count : length lists ≡ k
  pub each : (m : ℕ) (witness : Witness) → m < k → slice_get witnesses m ≡ Some witness
      → AreConditions t normals witness (slice_index_or lists m [])

-- ---- directions

-- the direction is within its bounds, and its witness has a list of numbers of normals
pub record IsFitDir (normals : List V3) (lists : List (List ℕ)) (dir : Dir) : Type 0 where
  pub named : dir.witness < length lists
  pub size : IsWithin DIRECTION dir.d
  pub numbers : All (λ k. k < length normals) (slice_index_or lists dir.witness [])

-- d leads ahead of the normal with this number
abbrev pub LeadsAheadOf : List V3 → V3 → ℕ → Type 0
LeadsAheadOf normals d k = pos 0 <ℤ dot (slice_index_or normals k origin) d

-- the direction leads ahead of the normals of its witness
abbrev pub LeadsAhead : List V3 → List (List ℕ) → Dir → Type 0
LeadsAhead normals lists dir = All (LeadsAheadOf normals dir.d) (slice_index_or lists dir.witness [])
