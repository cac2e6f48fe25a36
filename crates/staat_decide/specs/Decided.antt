-- What a set of parts comes to: it comes apart, or some of its parts are stuck.
use Rattle.std.specs.Prelude.{ℕ, ◌<◌, List, All, length}
use Rattle.staat_vec.specs.declared.vector.TheConstants.{DIRECTION}
use Rattle.staat_vec.specs.Vectors.{IsWithin}
use Rattle.staat_model.specs.declared.assembly.Part.{Part}
use Rattle.staat_model.specs.declared.set.PartSet.{PartSet}
use Rattle.staat_model.specs.Plans.{IsGood, IsStuck, plan_of}
use Rattle.staat_model.specs.SetLists.{set_of}
use Rattle.staat_holds.specs.declared.hold.Hold.{Hold}
use Rattle.staat_holds.specs.Chains.{KeepsHoldRules, own_names}
use Rattle.staat_holds.specs.Partials.{HasSmallDirections}
use Rattle.staat_decide.specs.declared.decision.Decision.{Decision}
use Rattle.staat_decide.specs.declared.decision.Decision.TheVariants as decision
use Rattle.staat_decide.specs.declared.decision.Leaving.{Leaving}
use Rattle.staat_decide.specs.declared.decision.Parting.{Parting}
use Rattle.staat_decide.specs.declared.decision.Parting.TheVariants as parting
use Rattle.staat_decide.specs.Labels.{IsPartList}
use Rattle.staat_decide.specs.Peelings.{IsPeeling}

-- the nodes are parts, each by itself, and stuck together; the pairs show it
pub record IsStuckHold (parts : List Part) (hold : Hold) : Type 0 where
  pub nodes_are : IsPartList hold.nodes
  pub within : All (λ p. p < length parts) hold.nodes
  pub stuck : IsStuck parts (set_of hold.nodes)
  pub keeps : KeepsHoldRules parts (own_names (length parts)) hold

-- the parts of w leave in sets along a direction that is not too great
pub record IsLeaving (parts : List Part) (w : List ℕ) (leaving : Leaving) : Type 0 where
  pub size : IsWithin DIRECTION leaving.d
  pub peels : IsPeeling parts leaving.d w leaving.sets

-- the parts of w leave in sets along a direction, or some parts are stuck
abbrev pub IsParting : List Part → List ℕ → Parting → Type 0
IsParting parts w (parting.Leaves leaving) = IsLeaving parts w leaving
IsParting parts w (parting.Stays hold) = IsStuckHold parts hold

-- a plan that takes w apart, with directions that are not too great, or parts that are stuck
abbrev pub IsDecision : List Part → PartSet → Decision → Type 0
IsDecision parts w (decision.Apart tree) = IsGood parts w (plan_of tree) × HasSmallDirections (plan_of tree)
IsDecision parts w (decision.Held hold) = IsStuckHold parts hold
