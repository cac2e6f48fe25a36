-- How the parts of a set are reached from one of them in a graph, one after another.
use Rattle.std.specs.Prelude.{◌≡◌, ℕ, ◌≤◌, List, [], ◌∷◌}
use Rattle.std.specs.FinSet as set
use Rattle.staat_model.specs.declared.set.PartSet.{PartSet}
use Rattle.staat_model.specs.Sets.{Has}

-- the graph with its arcs the other way round
abbrev pub Back : (ℕ → ℕ → Type 0) → ℕ → ℕ → Type 0
Back R a b = R b a

-- an arc with its ends exchanged
abbrev pub swapped : ℕ × ℕ → ℕ × ℕ
swapped arc = (arc.1, arc.0)

-- an arc of the graph R from a part that is reached to one of w that is not
pub record IsBridge (R : ℕ → ℕ → Type 0) (w reached : PartSet) (from to : ℕ) : Type 0 where
  pub from_in : Has reached from
  pub to_in : Has w to
  pub to_new : Has reached to → ⊥
  pub arc : R from to

-- `to` is the least part that can be reached next, and `from` the least part from which it can
pub record IsNextBridge (R : ℕ → ℕ → Type 0) (w reached : PartSet) (from to : ℕ) : Type 0 where
  pub is : IsBridge R w reached from to
  pub least_to : (f t : ℕ) → IsBridge R w reached f t → to ≤ t
  pub least_from : (f : ℕ) → IsBridge R w reached f to → from ≤ f

-- the bridges, each the next one, by which all parts of w are reached
abbrev pub IsTree : (ℕ → ℕ → Type 0) → PartSet → PartSet → List (ℕ × ℕ) → Type 0
IsTree R w reached [] = reached ≡ w
IsTree R w reached (pair ∷ pairs) =
    IsNextBridge R w reached pair.0 pair.1 × IsTree R w (set.insert reached pair.1) pairs
