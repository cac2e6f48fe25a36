-- Which parts leave by themselves, as a graph on parts tells.
use Rattle.std.specs.Prelude.{◌≢◌, ℕ, ◌<◌, ◌≤◌, List}
use Rattle.staat_vec.specs.declared.vector.V3.{V3}
use Rattle.staat_model.specs.declared.assembly.Part.{Part}
use Rattle.staat_model.specs.declared.set.PartSet.{PartSet}
use Rattle.staat_model.specs.Sets.{Has}
use Rattle.staat_graph.specs.Graphs.{HasArc}
use Rattle.staat_linear.specs.Orders.{LeavesAlong}

-- an arc leads from p to another part of w
abbrev pub IsHeld : List ℕ → PartSet → ℕ → Type 0
IsHeld rows w p = (q : ℕ) × Has w q × (q ≢ p) × HasArc rows p q

-- so from each part of w
abbrev pub AreHeld : List ℕ → PartSet → Type 0
AreHeld rows w = (p : ℕ) → Has w p → IsHeld rows w p

-- the least part of w from which none does
pub record IsLeastFree (rows : List ℕ) (w : PartSet) (p : ℕ) : Type 0 where
  pub member : Has w p
  pub free : IsHeld rows w p → ⊥
  pub before : (q : ℕ) → Has w q → q < p → IsHeld rows w q

-- the least part of w that is free of the others along d
pub record IsLeastLeaving (parts : List Part) (w : PartSet) (d : V3) (p : ℕ) : Type 0 where
  pub leaves : LeavesAlong parts w d p
  pub least : (q : ℕ) → LeavesAlong parts w d q → p ≤ q
