-- Vectors of whole numbers of any size, their products, their order and the sign of a number.
use Rattle.std.specs.Prelude.{ℕ, zero, suc, ℤ, pos, negsuc, ◌+ℤ◌, ◌-ℤ◌, ◌*ℤ◌, neg_ℤ, ◌≤◌}
use Rattle.std.specs.Prelude.{unsigned_abs}
use Rattle.std.specs.Ordering.{int_cmp, ordering_then}
use Rattle.std.specs.declared.cmp.Ordering.{Ordering}
use Rattle.staat_vec.specs.declared.vector.V3.{V3}
use Rattle.staat_vec.specs.declared.vector.Sign.{Sign}
use Rattle.staat_vec.specs.declared.vector.Sign.TheVariants.{Neg, Zero, Pos}

-- the vector of three components
abbrev pub vector : ℤ → ℤ → ℤ → V3
vector x y z = record { x = x; y = y; z = z }

-- the zero vector
abbrev pub origin : V3
origin = vector (pos 0) (pos 0) (pos 0)

abbrev pub plus : V3 → V3 → V3
plus a b = vector (a.x +ℤ b.x) (a.y +ℤ b.y) (a.z +ℤ b.z)

abbrev pub minus : V3 → V3 → V3
minus a b = vector (a.x -ℤ b.x) (a.y -ℤ b.y) (a.z -ℤ b.z)

abbrev pub negative : V3 → V3
negative a = vector (neg_ℤ a.x) (neg_ℤ a.y) (neg_ℤ a.z)

-- a number of 0 or more times a vector
abbrev pub times : ℕ → V3 → V3
times n a = vector (pos n *ℤ a.x) (pos n *ℤ a.y) (pos n *ℤ a.z)

abbrev pub dot : V3 → V3 → ℤ
dot a b = ((a.x *ℤ b.x) +ℤ (a.y *ℤ b.y)) +ℤ (a.z *ℤ b.z)

abbrev pub cross : V3 → V3 → V3
cross a b = vector ((a.y *ℤ b.z) -ℤ (a.z *ℤ b.y)) ((a.z *ℤ b.x) -ℤ (a.x *ℤ b.z))
    ((a.x *ℤ b.y) -ℤ (a.y *ℤ b.x))

abbrev pub det : V3 → V3 → V3 → ℤ
det a b c = dot a (cross b c)

-- each component is at most the bound in absolute value
pub record IsWithin (bound : ℕ) (v : V3) : Type 0 where
  pub x : unsigned_abs v.x ≤ bound
  pub y : unsigned_abs v.y ≤ bound
  pub z : unsigned_abs v.z ≤ bound

-- by x, then y, then z
abbrev pub vector_cmp : V3 → V3 → Ordering
vector_cmp a b = ordering_then (int_cmp a.x b.x) (ordering_then (int_cmp a.y b.y) (int_cmp a.z b.z))

abbrev pub sign : ℤ → Sign
sign (negsuc n) = Neg
sign (pos zero) = Zero
sign (pos (suc n)) = Pos
