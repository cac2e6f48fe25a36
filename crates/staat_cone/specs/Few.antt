-- Few of the vectors of a list that have the facets of all, and how they are found.
use Rattle.std.specs.Prelude.{◌≢◌, ◌⊎◌, pos, ◌<ℤ◌, ◌≤ℤ◌, List, All, Contains}
use Rattle.staat_vec.specs.declared.vector.V3.{V3}
use Rattle.staat_vec.specs.declared.vector.TheConstants.{DIFF, NORMAL}
use Rattle.staat_vec.specs.Vectors.{IsWithin, dot, origin}
use Rattle.staat_model.specs.Cones.{IsAbove, IsConeFacet, IsSpanning}
use Rattle.staat_model.specs.Facets.{IsDifference, IsFacet, Touches}
use Rattle.staat_cone.specs.Pairs.{HasMultiple}

-- few of the members of vs, which span space, and whose facets leave no member of vs behind
pub record IsEnough (few vs : List V3) : Type 0 where
  pub spanning : IsSpanning few
  pub members : (v : V3) → Contains few v → Contains vs v
  pub none_behind : (n : V3) → IsConeFacet few n → IsAbove n vs

-- v is a point of q less a point of p, and no greater than that can be
pub record IsDifferenceStep (p q : List V3) (v : V3) : Type 0 where
  pub difference : IsDifference p q v
  pub within : IsWithin DIFF v

-- all differences are among the few
abbrev pub HasDifferences : List V3 → List V3 → List V3 → Type 0
HasDifferences p q few = (v : V3) → IsDifference p q v → Contains few v

-- v is a difference that lies behind n
pub record IsViolator (p q : List V3) (n v : V3) : Type 0 where
  pub step : IsDifferenceStep p q v
  pub behind : dot v n <ℤ pos 0

-- the primitive vector on the ray of n is a facet of p and q if no difference lies behind it
pub record IsCandidate (p q : List V3) (n : V3) : Type 0 where
  pub some : n ≢ origin
  pub touches : Touches p q n
  pub within : IsWithin NORMAL n

-- each facet of the cone of few of the differences is still untested, by a multiple of it, or was found to be a facet
-- of p and q
pub record IsGrown (p q few untested found : List V3) : Type 0 where
  pub steps : All (IsDifferenceStep p q) few
  pub untested_are : All (IsCandidate p q) untested
  pub found_are : All (IsFacet p q) found
  pub all : (n : V3) → IsConeFacet few n → HasMultiple untested n ⊎ Contains found n

-- v is a difference that may join the few: each facet of theirs that does not leave it behind is untested or found
pub record IsReady (p q few untested found : List V3) (v : V3) : Type 0 where
  pub step : IsDifferenceStep p q v
  pub steps : All (IsDifferenceStep p q) few
  pub untested_are : All (IsCandidate p q) untested
  pub found_are : All (IsFacet p q) found
  pub all : (n : V3) → IsConeFacet few n → pos 0 ≤ℤ dot v n → HasMultiple untested n ⊎ Contains found n
