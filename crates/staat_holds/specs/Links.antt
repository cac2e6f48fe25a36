-- The pairs of a core by the nodes of their parts, with the facets of the two pieces.
use Rattle.std.specs.Prelude.{◌≡◌, ◌≢◌, ◌⊎◌, ℕ, ◌<◌, pos, ◌<ℤ◌, Option, List, []}
use Rattle.std.specs.Prelude.{◌∷◌, ◌++◌, All, Contains}
use Rattle.staat_vec.specs.declared.vector.V3.{V3}
use Rattle.staat_vec.specs.declared.vector.TheConstants.{NORMAL}
use Rattle.staat_vec.specs.Lists.{Lists}
use Rattle.staat_vec.specs.Primitives.{canon}
use Rattle.staat_vec.specs.Vectors.{IsWithin, dot, negative, origin, vector_cmp}
use Rattle.staat_model.specs.declared.assembly.Part.{Part}
use Rattle.staat_model.specs.declared.certificate.Arc.{Arc}
use Rattle.staat_model.specs.Assemblies.{HoldsAt}
use Rattle.staat_model.specs.Facets.{IsFacet}
use Rattle.staat_model.specs.Planes.{axes}
use Rattle.staat_holds.specs.declared.links.Link.{Link}
use Rattle.staat_holds.specs.Holds.{IsOfNode}
use Rattle.staat_holds.specs.Reaching.{AllReach}

-- both ends are among the first nodes, so many, and the facets are not zero and not too great
pub record IsLink (count : ℕ) (link : Link) : Type 0 where
  pub from : link.from < count
  pub to : link.to < count
  pub some : All (λ n. n ≢ origin) link.facets
  pub within : All (IsWithin NORMAL) link.facets

-- the link has the nodes of the pair, and the facets of its pieces
pub record IsLinkOf (parts : List Part) (nodes : List (Option ℕ)) (pair : Arc) (link : Link) : Type 0 where
  pub from : IsOfNode nodes link.from pair.a
  pub to : IsOfNode nodes link.to pair.b
  pub facets : HoldsAt parts pair (λ p q. Lists vector_cmp (IsFacet p q) link.facets)

-- one link for each pair
abbrev pub AreLinks : List Part → List (Option ℕ) → List Arc → List Link → Type 0
AreLinks parts nodes [] [] = Unit {0}
AreLinks parts nodes [] (link ∷ links) = ⊥
AreLinks parts nodes (pair ∷ core) [] = ⊥
AreLinks parts nodes (pair ∷ core) (link ∷ links) =
    IsLinkOf parts nodes pair link × AreLinks parts nodes core links

-- d leads ahead of all of the facets
abbrev pub IsLinkAhead : Link → V3 → Type 0
IsLinkAhead link d = All (λ n. pos 0 <ℤ dot n d) link.facets

-- at d the link leads from x to y, one way or the other
abbrev pub LinkLeads : V3 → Link → ℕ → ℕ → Type 0
LinkLeads d link x y =
    (IsLinkAhead link d × (link.from ≡ x) × (link.to ≡ y))
    ⊎ (IsLinkAhead link (negative d) × (link.to ≡ x) × (link.from ≡ y))

-- one of the links does
abbrev pub SomeLeads : List Link → V3 → ℕ → ℕ → Type 0
SomeLeads links d x y = (link : Link) × Contains links link × LinkLeads d link x y

-- n is the canonical normal of the facet, and no axis
abbrev pub IsOther : V3 → V3 → Type 0
IsOther facet n = (n ≡ canon facet) × (Contains axes n → ⊥)

-- so for one of the facets
abbrev pub HasOther : List V3 → V3 → Type 0
HasOther facets n = (facet : V3) × Contains facets facet × IsOther facet n

-- so for a facet of one of the links
abbrev pub HasLinkOther : List Link → V3 → Type 0
HasLinkOther links n = (link : Link) × Contains links link × HasOther link.facets n

-- the axes, then the other canonical normals of facets of the links, ascending
pub record AreLinkPlanes (links : List Link) (planes : List V3) : Type 0 where
  pub others : List V3
  pub others_are : Lists vector_cmp (HasLinkOther links) others
  pub is : planes ≡ axes ++ others

-- at d each node reaches each other one
abbrev pub IsJoined : List Link → ℕ → V3 → Type 0
IsJoined links count d = AllReach count (SomeLeads links d)

-- at d some node does not reach some other one
abbrev pub IsGap : List Link → ℕ → V3 → Type 0
IsGap links count d = IsJoined links count d → ⊥
