-- Pairs of pieces with their facets.
use Rattle.std.specs.Prelude.{◌<◌, List, All, ◌++◌, map}
use Rattle.staat_vec.specs.declared.vector.V3.{V3}
use Rattle.staat_vec.specs.Lists.{Lists}
use Rattle.staat_vec.specs.Vectors.{vector_cmp}
use Rattle.staat_limits.specs.declared.limits.TheConstants.{MOST_PARTS}
use Rattle.staat_model.specs.declared.assembly.Part.{Part}
use Rattle.staat_model.specs.declared.certificate.Arc.{Arc}
use Rattle.staat_model.specs.Assemblies.{HoldsAt, IsPart}
use Rattle.staat_model.specs.Facets.{IsFacet}
use Rattle.staat_pairs.specs.Tables.{back}

-- the parts are below the number of bits
pub record IsSmallPair (pair : Arc) : Type 0 where
  pub a : pair.a < MOST_PARTS
  pub b : pair.b < MOST_PARTS

-- the pieces of the parts are pieces, and the list has exactly the facets of the pair
pub record AreFacetsOf (parts : List Part) (pair : Arc) (facets : List V3) : Type 0 where
  pub parts_are : All IsPart parts
  pub holds : HoldsAt parts pair (λ p q. Lists vector_cmp (IsFacet p q) facets)

-- the pairs in both orders
abbrev pub both_ways : List Arc → List Arc
both_ways pairs = pairs ++ map back pairs
