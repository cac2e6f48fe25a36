-- The parts of the nodes of a short certificate, and where plans stand among the nodes.
use Rattle.std.specs.Prelude.{◌≡◌, ◌⊎◌, ℕ, ◌<◌, ◌≤◌, List, ◌++◌, Some, drop, length}
use Rattle.std.specs.Prelude.{slice_get}
use Rattle.std.specs.Ordering.{nat_cmp}
use Rattle.staat_vec.specs.Lists.{IsLeast}
use Rattle.staat_model.specs.declared.assembly.Part.{Part}
use Rattle.staat_holds.specs.Chains.{IsJoinedLast}
use Rattle.staat_short.specs.declared.short.ShortNode.{ShortNode}
use Rattle.staat_short.specs.declared.short.ShortNode.TheVariants.{Leaf, Split, Group}
use Rattle.staat_short.specs.ShortTexts.{GroupedPlan, short_nodes_of}

-- ---- members

-- p is the part of a leaf, or one of the parts that the last hold of a group joins
abbrev pub IsMemberOf : List Part → ShortNode → ℕ → Type 0
IsMemberOf parts (Leaf q) p = p ≡ q
IsMemberOf parts (Split d) p = ⊥
IsMemberOf parts (Group holds) p = IsJoinedLast parts holds p

-- p is a member of node number k
pub record IsMemberAt (parts : List Part) (nodes : List ShortNode) (k p : ℕ) : Type 0 where
  pub node : ShortNode
  pub at : slice_get nodes k ≡ Some node
  pub member : IsMemberOf parts node p

-- p is a member of one of the plan's nodes
abbrev pub IsMemberWithin : List Part → GroupedPlan → ℕ → Type 0
IsMemberWithin parts plan p = (k : ℕ) × IsMemberAt parts (short_nodes_of plan) k p

-- each member is a part, and each part is a member of one node
pub record AreMembersOnce (parts : List Part) (nodes : List ShortNode) : Type 0 where
  pub each : (k p : ℕ) → IsMemberAt parts nodes k p → p < length parts
  pub all : (p : ℕ) → p < length parts → (k : ℕ) × IsMemberAt parts nodes k p
  pub once : (k m p : ℕ) → IsMemberAt parts nodes k p → IsMemberAt parts nodes m p → k ≡ m

-- node k has a member that is no part, or that an earlier node has
pub record IsBadMember (parts : List Part) (nodes : List ShortNode) (k : ℕ) : Type 0 where
  pub part : ℕ
  pub member : IsMemberAt parts nodes k part
  pub bad : (length parts ≤ part) ⊎ ((m : ℕ) × (m < k) × IsMemberAt parts nodes m part)

-- some part is a member of no node
pub record HasMissingMember (parts : List Part) (nodes : List ShortNode) : Type 0 where
  pub part : ℕ
  pub exists : part < length parts
  pub missing : (k : ℕ) → IsMemberAt parts nodes k part → ⊥

-- the first node with a bad member, or, where there is none and a part is missing, the number of nodes
pub data IsMemberFault (parts : List Part) (nodes : List ShortNode) (node : ℕ) : Type 0 where
  bad_member : IsLeast nat_cmp (IsBadMember parts nodes) node → IsMemberFault parts nodes node
  missing_member : ((k : ℕ) → IsBadMember parts nodes k → ⊥) → HasMissingMember parts nodes
      → node ≡ length nodes → IsMemberFault parts nodes node

-- ---- places

-- from number k on stand the nodes of the plan
pub record StandsAt (nodes : List ShortNode) (k : ℕ) (plan : GroupedPlan) : Type 0 where
  pub more : List ShortNode
  pub is : drop k nodes ≡ short_nodes_of plan ++ more
