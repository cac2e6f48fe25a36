-- Nodes, by their numbers, and what the arcs between them lead to.
use Rattle.std.specs.Prelude.{ℕ, ◌<◌}

-- from x the arcs of R, one after another, lead to z
pub data Reaches (R : ℕ → ℕ → Type 0) : ℕ → ℕ → Type 0 where
  here : {x : ℕ} → Reaches R x x
  along : {x z : ℕ} → (y : ℕ) → R x y → Reaches R y z → Reaches R x z

-- each of the first nodes, so many, reaches each other one
abbrev pub AllReach : ℕ → (ℕ → ℕ → Type 0) → Type 0
AllReach count R = (x y : ℕ) → x < count → y < count → Reaches R x y
