-- A wall that shows that two pieces do not meet along a direction.
use Rattle.std.specs.Prelude.{◌≢◌, pos, ◌≤ℤ◌, List, All}
use Rattle.staat_vec.specs.declared.vector.V3.{V3}
use Rattle.staat_vec.specs.Vectors.{origin, dot, minus}

-- every point of q is as far along n as every point of p, or farther
abbrev pub IsBeyond : List V3 → List V3 → V3 → Type 0
IsBeyond p q n = All (λ a. All (λ b. pos 0 ≤ℤ dot n (minus b a)) q) p

-- the plane with the normal n keeps p and q apart, and d does not lead through it
pub record IsShown (p q : List V3) (d n : V3) : Type 0 where
  pub wall : n ≢ origin
  pub beyond : IsBeyond p q n
  pub away : dot n d ≤ℤ pos 0
