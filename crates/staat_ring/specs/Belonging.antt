-- What signs count: of each ordered pair of pieces of a table the facets that are positive at a direction.
use Rattle.std.specs.Prelude.{◌≡◌, ◌↔◌, ◌⊎◌, ℕ, ◌<◌, ◌≤◌, pos, int_lt, List, length, map}
use Rattle.std.specs.Prelude.{All, Contains, Some, Bool, not, ◌==◌, ◌&&◌, slice_get}
use Rattle.std.specs.List.{count_by}
use Rattle.staat_vec.specs.declared.vector.V3.{V3}
use Rattle.staat_vec.specs.Vectors.{dot, sign}
use Rattle.staat_model.specs.declared.assembly.Part.{Part}
use Rattle.staat_model.specs.declared.certificate.Arc.{Arc}
use Rattle.staat_model.specs.declared.set.PartSet.{PartSet}
use Rattle.staat_model.specs.Circles.{IsLinked}
use Rattle.staat_pairs.specs.Tables.{IsTableArc, Table, facets_of, slot}
use Rattle.staat_ring.specs.BlockCounts.{parts_at}
use Rattle.staat_planes.specs.Tables.{IsPlaneOf}
use Rattle.staat_ring.specs.declared.pairs.PairCount.{PairCount}
use Rattle.staat_ring.specs.Pairs.{pair_at}
use Rattle.staat_ring.specs.Rings.{facet_by}
use Rattle.staat_planes.specs.PairOrder.{plane_at}
use Rattle.staat_ring.specs.CountedSigns.{IsBlockingPair, PlaneState, Signed, against_at, along_at, positives, state_at}

-- ---- the law

-- how many of these facets are positive at v: v leads ahead of them
abbrev pub positive_at : V3 → List V3 → ℕ
positive_at v facets = count_by (λ n. int_lt (pos 0) (dot n v)) facets

-- The count of the pair of the arc is the number of its facets that are positive at v, and the pair blocks where that
-- is the number of its facets.
pub record IsCountedAt (v : V3) (t : Table) (s : Signed) (arc : Arc) : Type 0 where
  pub count : positives (slot t.pieces arc) s.states ≡ positive_at v (facets_of t arc)
  pub blocks : IsBlockingPair s (parts_at arc.a arc.b) (slot t.pieces arc)
      ↔ (positive_at v (facets_of t arc) ≡ length (facets_of t arc))

-- ---- the facets of a pair, by their planes

-- a facet, by the number of its plane, and whether it is the negative of that plane's normal
pub record PlaneFacet : Type 0 where
  pub plane : ℕ
  pub turned : Bool

abbrev pub facet_at : List V3 → PlaneFacet → V3
facet_at planes w = facet_by w.turned (plane_at planes w.plane)

-- how many of the facets are the normal of the plane k, and how many the negative
abbrev pub along_plane : ℕ → List PlaneFacet → ℕ
along_plane k by_plane = count_by (λ w. (w.plane == k) && not w.turned) by_plane

abbrev pub against_plane : ℕ → List PlaneFacet → ℕ
against_plane k by_plane = count_by (λ w. (w.plane == k) && w.turned) by_plane

-- pair q stands at each plane as often as the normal, and as often as the negative, is one of these facets
pub record IsPairIndexed (planes facets : List V3) (states : List PlaneState) (q : ℕ) : Type 0 where
  pub by_plane : List PlaneFacet
  pub are : map (facet_at planes) by_plane ≡ facets
  pub within : All (λ w. w.plane < length planes) by_plane
  pub along : (k : ℕ) → along_at states k q ≡ along_plane k by_plane
  pub against : (k : ℕ) → against_at states k q ≡ against_plane k by_plane

-- ---- signs that were made from a table

-- the pair that stands at the slot of the arc
abbrev pub pair_of : Table → Signed → Arc → PairCount
pair_of t s arc = pair_at s.pairs (slot t.pieces arc)

-- the pair is that of the arc: its parts, how many facets it has, and these
pub record IsPairOf (t : Table) (s : Signed) (arc : Arc) : Type 0 where
  pub within : slot t.pieces arc < length s.pairs
  pub parts : (pair_of t s arc).parts ≡ parts_at arc.a arc.b
  pub wanted : (pair_of t s arc).wanted ≡ length (facets_of t arc)
  pub index : IsPairIndexed t.planes (facets_of t arc) s.states (slot t.pieces arc)

-- a number that is no pair's: it wants a facet, and has none
pub record IsUnused (s : Signed) (q : ℕ) : Type 0 where
  pub wanted : 1 ≤ (pair_at s.pairs q).wanted
  pub along : (k : ℕ) → along_at s.states k q ≡ 0
  pub against : (k : ℕ) → against_at s.states k q ≡ 0

-- the signs were made from the table: one for each of its planes, and the pairs are those of its pieces
pub record BelongTo (t : Table) (s : Signed) : Type 0 where
  pub states : length s.states ≡ length t.planes
  pub all : (arc : Arc) → IsTableArc t arc → IsPairOf t s arc
  pub only : (q : ℕ) → q < length s.pairs → ((arc : Arc) × IsTableArc t arc × (slot t.pieces arc ≡ q))
      ⊎ IsUnused s q

-- the signs of the linked planes are those at v
abbrev pub HoldSigns : List V3 → List ℕ → Signed → V3 → Type 0
HoldSigns planes linked s v = (k : ℕ) (n : V3) → IsLinked planes linked k n
    → (state_at s.states k).sign ≡ sign (dot n v)

-- all planes of w are linked
abbrev pub HasAll : List Part → PartSet → List V3 → List ℕ → Type 0
HasAll parts w planes linked = (k : ℕ) (n : V3) → slice_get planes k ≡ Some n → IsPlaneOf parts w n
    → Contains linked k
