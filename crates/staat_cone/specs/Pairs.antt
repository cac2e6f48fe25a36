-- Facets of a list of vectors by pairs of them, and lists that grow.
use Rattle.std.specs.Prelude.{◌≡◌, ◌≢◌, ◌⊎◌, pos, List, Contains}
use Rattle.staat_vec.specs.declared.vector.V3.{V3}
use Rattle.staat_vec.specs.Vectors.{origin, dot, cross}
use Rattle.staat_vec.specs.Primitives.{IsPrimitive, IsPrimitiveOf}
use Rattle.staat_model.specs.Cones.{IsAbove}

-- n has all of vs on its positive side, and is at right angles to g and h, which are not parallel
pub record IsThrough (vs : List V3) (g h n : V3) : Type 0 where
  pub primitive : IsPrimitive n
  pub above : IsAbove n vs
  pub independent : cross g h ≢ origin
  pub g_on : dot g n ≡ pos 0
  pub h_on : dot h n ≡ pos 0

-- f is the cross product of g and h in one of the two orders, is not zero, and has all of vs on its positive side
pub record IsEdge (vs : List V3) (g h f : V3) : Type 0 where
  pub is : (f ≡ cross g h) ⊎ (f ≡ cross h g)
  pub some : f ≢ origin
  pub above : IsAbove f vs

-- a positive multiple of the primitive vector n stands in the list
abbrev pub HasMultiple : List V3 → V3 → Type 0
HasMultiple fs n = (f : V3) × Contains fs f × IsPrimitiveOf f n

-- some member is in the relation R to n
abbrev pub FromSome : (V3 → V3 → Type 0) → List V3 → V3 → Type 0
FromSome R hs n = (h : V3) × Contains hs h × R h n

-- the list has grown by edges through v and members of vs, among them a multiple of each facet through v and a member
pub record AddsEdges (vs : List V3) (v : V3) (old new : List V3) : Type 0 where
  pub kept : (f : V3) → Contains old f → Contains new f
  pub added : (n : V3) → FromSome (λ h. IsThrough vs h v) vs n → HasMultiple new n
  pub only : (f : V3) → Contains new f → Contains old f ⊎ FromSome (λ h. IsEdge vs h v) vs f

-- new has what old has and what has P, and nothing else
pub record Adds (P : V3 → Type 0) (old new : List V3) : Type 0 where
  pub kept : (x : V3) → Contains old x → Contains new x
  pub added : (x : V3) → P x → Contains new x
  pub only : (x : V3) → Contains new x → Contains old x ⊎ P x
