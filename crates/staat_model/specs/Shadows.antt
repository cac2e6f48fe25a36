-- Two pieces, one before the other as seen along a normal.
use Rattle.std.specs.Prelude.{◌≡◌, ◌⊎◌, pos, ◌≤ℤ◌, List, All}
use Rattle.staat_vec.specs.declared.vector.V3.{V3}
use Rattle.staat_vec.specs.Vectors.{dot}

-- no point of p is farther along n than any point of q
abbrev pub IsBefore : V3 → (p q : List V3) → Type 0
IsBefore n p q = All (λ a. All (λ b. dot n a ≤ℤ dot n b) q) p

-- along n one of the two comes before the other, and d does not lead p on towards q
abbrev pub IsParted : V3 → (p q : List V3) → V3 → Type 0
IsParted n p q d = (IsBefore n p q × (dot n d ≤ℤ pos 0)) ⊎ (IsBefore n q p × (pos 0 ≤ℤ dot n d))

-- d runs across n, and of the shadows that the two cast on n one lies before the other
pub record HaveShadowsApart (n : V3) (p q : List V3) (d : V3) : Type 0 where
  pub across : dot n d ≡ pos 0
  pub apart : IsBefore n p q ⊎ IsBefore n q p
