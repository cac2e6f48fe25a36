-- How words fall into those before the first `--` and those behind it.
use Rattle.std.specs.Prelude.{◌≡◌, ◌≢◌, ◌⊎◌, ℕ, List, ◌++◌, ◌∷◌, [], All, codes}

-- none of the first words is `--`; the others stand behind the first `--`, and there are none where there is none
pub record FallApart (given first others : List (List ℕ)) : Type 0 where
  pub plain : All (λ w. w ≢ codes "--") first
  pub apart : (given ≡ first ++ codes "--" ∷ others) ⊎ ((given ≡ first) × (others ≡ []))
