-- What one direction takes apart.
use Rattle.std.specs.Prelude.{◌≡◌, ℕ, ◌≤◌, List, All, length, map}
use Rattle.std.specs.FinSet as set
use Rattle.staat_vec.specs.declared.vector.V3.{V3}
use Rattle.staat_model.specs.declared.assembly.Part.{Part}
use Rattle.staat_model.specs.declared.set.PartSet.{PartSet}
use Rattle.staat_model.specs.Leaving.{IsLeavingOrder}
use Rattle.staat_model.specs.Removal.{IsFree}
use Rattle.staat_model.specs.SetLists.{set_of, union_of}
use Rattle.staat_model.specs.Sets.{IsSide}
use Rattle.staat_decide.specs.Labels.{IsPartList}

-- at least two sets, each with a part and ascending, that together are w and leave along d one after the other
pub record IsPeeling (parts : List Part) (d : V3) (w : List ℕ) (sets : List (List ℕ)) : Type 0 where
  pub two : 2 ≤ length sets
  pub each : All IsPartList sets
  pub whole : union_of (map set_of sets) ≡ set_of w
  pub order : IsLeavingOrder parts d (map set_of sets)

-- no side of w is free of the rest along d
abbrev pub IsHeldAlong : List Part → V3 → PartSet → Type 0
IsHeldAlong parts d w = (s : PartSet) → IsSide w s → IsFree parts s (set.difference w s) d → ⊥
