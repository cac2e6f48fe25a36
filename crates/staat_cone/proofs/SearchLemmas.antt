-- How great the normals of the search for a wall are.
use Rattle.std.proofs.Common.{◌≡◌, ℕ, ℤ, ◌+◌, ◌*◌, ◌≤◌, ◌*ℤ◌, sym, subst}
use Rattle.std.specs.Prelude.{unsigned_abs}
use Rattle.staat_vec.specs.declared.vector.V3.{V3}
use Rattle.staat_vec.specs.Vectors.{IsWithin, plus, vector}
use Rattle.staat_vec.proofs.Bounds.{IsWithin-plus, abs_mul_le}

-- the sum of two vectors
pub plus_within : (m n : ℕ) (a b c : V3) → IsWithin m a → IsWithin n b → c ≡ plus a b → IsWithin (m + n) c
plus_within m n a b c h g e = subst (IsWithin (m + n)) (sym e) (IsWithin-plus m n a b h g)

-- a multiple of a vector
pub multiple_within : (v r : V3) (f : ℤ) → r ≡ vector (v.x *ℤ f) (v.y *ℤ f) (v.z *ℤ f) → (bound most : ℕ) → IsWithin bound v → unsigned_abs f ≤ most → IsWithin (bound * most) r
multiple_within v r f e bound most h le = subst (IsWithin (bound * most)) (sym e) (record {
  x = abs_mul_le v.x f bound most h.x le;
  y = abs_mul_le v.y f bound most h.y le;
  z = abs_mul_le v.z f bound most h.z le;
})
