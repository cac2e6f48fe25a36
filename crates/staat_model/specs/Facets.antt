-- The facets of the cone of directions along which two pieces meet.
use Rattle.std.specs.Prelude.{◌≡◌, ◌≢◌, pos, List, Contains}
use Rattle.staat_vec.specs.declared.vector.V3.{V3}
use Rattle.staat_vec.specs.Vectors.{origin, dot, cross, minus}
use Rattle.staat_vec.specs.Primitives.{IsPrimitive}
use Rattle.staat_model.specs.Walls.{IsBeyond}

-- v is a point of q less a point of p
pub record IsDifference (p q : List V3) (v : V3) : Type 0 where
  pub a : V3
  pub b : V3
  pub a_in : Contains p a
  pub b_in : Contains q b
  pub is : v ≡ minus b a

-- two linearly independent differences lie on the plane of n
pub record Touches (p q : List V3) (n : V3) : Type 0 where
  pub u : V3
  pub v : V3
  pub u_is : IsDifference p q u
  pub v_is : IsDifference p q v
  pub u_on : dot n u ≡ pos 0
  pub v_on : dot n v ≡ pos 0
  pub independent : cross u v ≢ origin

pub record IsFacet (p q : List V3) (n : V3) : Type 0 where
  pub primitive : IsPrimitive n
  pub beyond : IsBeyond p q n
  pub touches : Touches p q n
