-- Batches of cones: up to 128 of them with a bit for each, and tests by which the signs of planes rule cones out.
use Rattle.std.specs.Prelude.{◌≡◌, ◌↔◌, ◌<◌, ◌≤◌, ◌⊎◌, ◌+◌, ◌*◌, ℕ, List, [], ◌∷◌, All, Any, length, Some, bit_or}
use Rattle.std.specs.Prelude.{slice_get, slice_index}
use Rattle.std.specs.Int.{bit_at}
use Rattle.staat_vec.specs.declared.vector.Sign.{Sign}
use Rattle.staat_limits.specs.declared.limits.TheConstants.{MOST_PARTS}
use Rattle.staat_model.specs.Cells.{sign_place}
use Rattle.staat_cells.specs.declared.batches.ArcCones.{ArcCones}
use Rattle.staat_cells.specs.declared.batches.Batch.{Batch}
use Rattle.staat_cells.specs.declared.batches.PlaneTest.{PlaneTest}
use Rattle.staat_cells.specs.declared.half_spaces.HalfSpace.{HalfSpace}
use Rattle.staat_cells.specs.declared.joined_batches.JoinedBatch.{JoinedBatch}
use Rattle.staat_cells.specs.declared.joined_batches.JoinedTest.{JoinedTest}
use Rattle.staat_cells.specs.HalfSpaces.{AreInside, sign_at}

-- ---- what is ruled out

-- cone j is left where the cones of these bits are ruled out
abbrev pub IsLeft : (outside j : ℕ) → Type 0
IsLeft outside j = bit_at outside j ≡ 0

-- what the test rules out at this sign of its plane
abbrev pub outside_at : PlaneTest → Sign → ℕ
outside_at test s = slice_index test.outside (sign_place s)

-- what it rules out at directions with these signs
abbrev pub outside_by : List Sign → PlaneTest → ℕ
outside_by signs test = outside_at test (sign_at signs test.plane)

-- none of the tests rules out cone j, where `outside` is what each rules out
abbrev pub IsLeftByAll : {T : Type 0} → (outside : T → ℕ) → List T → ℕ → Type 0
IsLeftByAll outside tests j = All (λ test. IsLeft (outside test) j) tests

-- a test that rules out nothing
abbrev pub no_test : PlaneTest
no_test = record { plane = 0; outside = 0 ∷ 0 ∷ 0 ∷ [] }

-- ---- three tests as one

-- the place of three signs among all threes of signs, in their order
abbrev pub place_of_three : Sign → Sign → Sign → ℕ
place_of_three s t u = 9 * sign_place s + 3 * sign_place t + sign_place u

-- what three tests rule out together at these signs of their planes
abbrev pub outside_together : (x y z : PlaneTest) → (s t u : Sign) → ℕ
outside_together x y z s t u = bit_or (bit_or (outside_at x s) (outside_at y t)) (outside_at z u)

-- what a joined test rules out at directions with these signs
abbrev pub joined_outside : List Sign → JoinedTest → ℕ
joined_outside signs test = slice_index test.outside
    (place_of_three (sign_at signs test.first) (sign_at signs test.second) (sign_at signs test.third))

-- the planes of the test have numbers of at most last
pub record HasPlanesUpTo (last : ℕ) (test : JoinedTest) : Type 0 where
  pub first : test.first ≤ last
  pub second : test.second ≤ last
  pub third : test.third ≤ last

-- ---- the parts that cones are of

-- the arc says that cone j is one of the parts a and b
abbrev pub IsConeOf : ArcCones → ℕ → ℕ → ℕ → Type 0
IsConeOf arc a b j = (arc.a ≡ a) × (arc.b ≡ b) × (bit_at arc.cones j ≡ 1)

-- some arc of the list does
abbrev pub HasCone : List ArcCones → ℕ → ℕ → ℕ → Type 0
HasCone arcs a b j = Any (λ arc. IsConeOf arc a b j) arcs

-- some cone of the arc is left
abbrev pub HasLeft : ArcCones → (outside : ℕ) → Type 0
HasLeft arc outside = (j : ℕ) × (bit_at arc.cones j ≡ 1) × IsLeft outside j

-- some cone of the parts a and b is among those that are left
pub record HasConeAmong (arcs : List ArcCones) (left : ℕ → Type 0) (a b : ℕ) : Type 0 where
  pub cone : ℕ
  pub has : HasCone arcs a b cone
  pub is_left : left cone

-- there can be two such parts
pub record HasParts (arc : ArcCones) : Type 0 where
  pub a_is : arc.a < MOST_PARTS
  pub b_is : arc.b < MOST_PARTS

-- ---- batches

-- directions with these signs lie in cone j, where there is one
abbrev pub AreInsideCone : List Sign → List (List HalfSpace) → ℕ → Type 0
AreInsideCone signs cones j = (cone : List HalfSpace) → slice_get cones j ≡ Some cone → AreInside signs cone

-- directions with these signs lie in cone j exactly where no test rules it out
pub record IsBatch (batch : Batch) : Type 0 where
  pub few : length batch.cones.items ≤ 128
  pub tests : (signs : List Sign) (j : ℕ) → IsLeftByAll (outside_by signs) batch.tests.items j
      ↔ AreInsideCone signs batch.cones.items j
  pub within : (a b j : ℕ) → HasCone batch.arcs.items a b j → j < length batch.cones.items
  pub parts : All HasParts batch.arcs.items

-- directions with these signs lie in a cone of the parts a and b
abbrev pub IsBatchArc : Batch → List Sign → ℕ → ℕ → Type 0
IsBatchArc batch signs = HasConeAmong batch.arcs.items (IsLeftByAll (outside_by signs) batch.tests.items)

-- the batch has grown by a cone of the parts a and b
pub record AddsToBatch (cone : List HalfSpace) (a b : ℕ) (old new : Batch) : Type 0 where
  pub batch : IsBatch new
  pub arcs : (signs : List Sign) (x y : ℕ)
      → IsBatchArc new signs x y ↔ (IsBatchArc old signs x y ⊎ ((x ≡ a) × (y ≡ b) × AreInside signs cone))

-- the same arcs of a batch whose tests are joined
abbrev pub IsJoinedArc : JoinedBatch → List Sign → ℕ → ℕ → Type 0
IsJoinedArc batch signs = HasConeAmong batch.arcs.items (IsLeftByAll (joined_outside signs) batch.tests.items)

-- no test has a plane behind the last, and there can be the parts
pub record IsJoinedBatch (batch : JoinedBatch) : Type 0 where
  pub planes : All (HasPlanesUpTo batch.last) batch.tests.items
  pub parts : All HasParts batch.arcs.items
