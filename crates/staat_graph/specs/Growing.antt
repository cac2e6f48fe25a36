-- Trees and lists of groups while they are made.
use Rattle.std.specs.Prelude.{◌≡◌, ℕ, List, [], ◌∷◌}
use Rattle.std.specs.FinSet as set
use Rattle.staat_model.specs.declared.set.PartSet.{PartSet}
use Rattle.staat_model.specs.Bridges.{IsBridge, IsNextBridge}
use Rattle.staat_model.specs.Sets.{Has}

-- by the arcs, each the next one from what is reached, one set grows to another
abbrev pub Grows : (ℕ → ℕ → Type 0) → PartSet → PartSet → List (ℕ × ℕ) → PartSet → Type 0
Grows R w reached [] end = reached ≡ end
Grows R w reached (arc ∷ arcs) end =
    IsNextBridge R w reached arc.0 arc.1 × Grows R w (set.insert reached arc.1) arcs end

-- no arc leads from what is reached to another part of w
abbrev pub HasNoBridge : (ℕ → ℕ → Type 0) → PartSet → PartSet → Type 0
HasNoBridge R w reached = (from to : ℕ) → IsBridge R w reached from to → ⊥

-- the frontier has the parts of w to which an arc leads from one that is reached
pub record IsFrontier (R : ℕ → ℕ → Type 0) (w reached frontier : PartSet) : Type 0 where
  pub within : (to : ℕ) → Has frontier to → Has w to
  pub from : (to : ℕ) → Has frontier to → (from : ℕ) × Has reached from × R from to
  pub all : (from to : ℕ) → Has reached from → Has w to → R from to → Has frontier to
