-- Sets of parts that leave along one direction, one after the other.
use Rattle.std.specs.Prelude.{◌≢◌, ℕ, List, [], ◌∷◌, Contains}
use Rattle.staat_vec.specs.declared.vector.V3.{V3}
use Rattle.staat_vec.specs.Vectors.{origin}
use Rattle.staat_model.specs.declared.assembly.Part.{Part}
use Rattle.staat_model.specs.declared.set.PartSet.{PartSet}
use Rattle.staat_model.specs.Plans.{IsGood, Plan, split}
use Rattle.staat_model.specs.Removal.{Blocks, IsFree}
use Rattle.staat_model.specs.SetLists.{AreAllApart, union_of}
use Rattle.staat_model.specs.Sets.{Has}

-- no part of s blocks along d a part of r
abbrev pub BlocksNone : List Part → V3 → (s r : PartSet) → Type 0
BlocksNone parts d s r = (a b : ℕ) → Has s a → Has r b → Blocks parts d a b → ⊥

-- no set has a part that blocks along d one of a later set
abbrev pub BlockNoLater : List Part → V3 → List PartSet → Type 0
BlockNoLater parts d [] = Unit {0}
BlockNoLater parts d (s ∷ rest) =
    ((t : PartSet) → Contains rest t → BlocksNone parts d s t) × BlockNoLater parts d rest

-- an order in which the sets can leave along d: d is not zero, no two of the sets have a part in common, and none
-- blocks a later one
pub record IsLeavingOrder (parts : List Part) (d : V3) (sets : List PartSet) : Type 0 where
  pub moves : d ≢ origin
  pub apart : AreAllApart sets
  pub order : BlockNoLater parts d sets

-- each set is free along d of all the later ones together
abbrev pub LeaveInTurn : List Part → V3 → List PartSet → Type 0
LeaveInTurn parts d [] = Unit {0}
LeaveInTurn parts d (s ∷ rest) = IsFree parts s (union_of rest) d × LeaveInTurn parts d rest

-- there are as many plans as sets, and each takes apart the set at its place
abbrev pub AreGoodPlans : List Part → List PartSet → List Plan → Type 0
AreGoodPlans parts [] [] = Unit {0}
AreGoodPlans parts [] (plan ∷ plans) = ⊥
AreGoodPlans parts (s ∷ sets) [] = ⊥
AreGoodPlans parts (s ∷ sets) (plan ∷ plans) = IsGood parts s plan × AreGoodPlans parts sets plans

-- the plan that moves off along d what the first plan takes apart, then what the next one does, and so on; what the
-- last one takes apart stays
abbrev pub in_turn : V3 → Plan → List Plan → Plan
in_turn d plan [] = plan
in_turn d plan (next ∷ plans) = split d plan (in_turn d next plans)
