-- Plans whose certificates are made.
use Rattle.std.specs.Prelude.{◌≡◌, ◌<◌, ◌++◌, ℕ, List}
use Rattle.staat_vec.specs.Vectors.{IsWithin}
use Rattle.staat_model.specs.declared.assembly.Part.{Part}
use Rattle.staat_model.specs.declared.certificate.Node.{Node}
use Rattle.staat_limits.specs.declared.limits.TheConstants.{MOST_PARTS}
use Rattle.staat_model.specs.Certify.{ArePlanNodes}
use Rattle.staat_model.specs.Plans.{Plan, leaf, split}

-- each direction of the plan is within the bound
abbrev pub AreWithin : ℕ → Plan → Type 0
AreWithin bound (leaf p) = Unit {0}
AreWithin bound (split d moved rest) = IsWithin bound d × AreWithin bound moved × AreWithin bound rest

-- each part can be a part of an assembly
abbrev pub HasPartNumbers : Plan → Type 0
HasPartNumbers (leaf p) = p < MOST_PARTS
HasPartNumbers (split d moved rest) = HasPartNumbers moved × HasPartNumbers rest

-- the second list goes on with the nodes of the plan
pub record AddsNodes (parts : List Part) (plan : Plan) (old new : List Node) : Type 0 where
  pub nodes : List Node
  pub is : new ≡ old ++ nodes
  pub are : ArePlanNodes parts plan nodes
