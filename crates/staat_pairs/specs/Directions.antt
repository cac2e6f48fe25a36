-- Directions that are collected from planes.
use Rattle.std.specs.Prelude.{◌≡◌, ◌⊎◌, ℕ, List, Contains}
use Rattle.staat_vec.specs.declared.vector.V3.{V3}
use Rattle.staat_vec.specs.Primitives.{IsCanon}

-- a refusal of the version lists the direction, if it is a vertex
abbrev pub IsOfVersion : ℕ → V3 → Type 0
IsOfVersion version v = version ≡ 2 → IsCanon v

-- the second list has also those of these vectors that the version lists
pub record AddsListed (version : ℕ) (vs old new : List V3) : Type 0 where
  pub from : (v : V3) → Contains new v → Contains old v ⊎ (Contains vs v × IsOfVersion version v)
  pub kept : (v : V3) → Contains old v → Contains new v
  pub all : (v : V3) → Contains vs v → IsOfVersion version v → Contains new v

-- what has been added so far, while the vectors of the second list are still ahead
pub record ListsBehind (version : ℕ) (whole ahead old taken : List V3) : Type 0 where
  pub within : (v : V3) → Contains ahead v → Contains whole v
  pub from : (v : V3) → Contains taken v → Contains old v ⊎ (Contains whole v × IsOfVersion version v)
  pub kept : (v : V3) → Contains old v → Contains taken v
  pub all : (v : V3) → Contains whole v → IsOfVersion version v → Contains ahead v ⊎ Contains taken v
