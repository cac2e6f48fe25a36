-- The tree with which nodes begin, and what is said of its splits.
use Rattle.std.specs.Prelude.{◌≡◌, ℕ, ◌+◌, ◌^◌, ◌<◌, ◌∷◌, ◌++◌}
use Rattle.std.specs.Prelude.{List, length, sum_by, All, Option, MatchOption}
use Rattle.staat_vec.specs.declared.vector.TheConstants.{NORMAL, DIRECTION}
use Rattle.staat_vec.specs.declared.vector.V3.{V3}
use Rattle.staat_vec.specs.Vectors.{IsWithin}
use Rattle.staat_limits.specs.declared.limits.TheConstants.{MOST_PARTS}
use Rattle.staat_model.specs.declared.assembly.Part.{Part}
use Rattle.staat_model.specs.declared.certificate.Node.{Node}
use Rattle.staat_model.specs.declared.certificate.Node.TheVariants.{Leaf, Split}
use Rattle.staat_model.specs.declared.certificate.Sep.{Sep}
use Rattle.staat_model.specs.declared.set.PartSet.{PartSet}
use Rattle.staat_model.specs.declared.verdict.Reason.{Reason}
use Rattle.staat_model.specs.Certificates.{WalledPlan, nodes_of, walled_parts}
use Rattle.staat_model.specs.Lines.{IsArcInBounds}
use Rattle.staat_model.specs.Reasons.{EntryHolds, IsSplitReason, SplitEntry, node_size, splits_of}
use Rattle.staat_model.specs.Sets.{Has}
use Rattle.staat_model.specs.Texts.{IsNodeInOrder}

-- the members of the set are parts of the assembly
abbrev pub ArePartsOf : List Part → PartSet → Type 0
ArePartsOf parts s = (p : ℕ) → Has s p → p < length parts

-- the two sides of a split have parts of the assembly alone, and its direction is within its bounds
pub record AreFitSides (parts : List Part) (moved rest : PartSet) (d : V3) : Type 0 where
  pub moved_in : ArePartsOf parts moved
  pub rest_in : ArePartsOf parts rest
  pub direction : IsWithin DIRECTION d

-- the numbers of a wall are within their bounds
pub record IsSepInBounds (sep : Sep) : Type 0 where
  pub arc : IsArcInBounds sep.arc
  pub normal : IsWithin NORMAL sep.n

-- the numbers of a node are within their bounds, and its walls ascend
abbrev pub IsFitNode : Node → Type 0
IsFitNode (Leaf p) = p < MOST_PARTS
IsFitNode (Split d seps) = IsWithin DIRECTION d × All IsSepInBounds seps × IsNodeInOrder (Split d seps)

-- a tree of parts of the assembly, within its bounds, whose first node has these numbers
pub record IsFitTree (parts : List Part) (t : WalledPlan) (number line : ℕ) : Type 0 where
  pub nodes : All IsFitNode (nodes_of t)
  pub parts_in : ArePartsOf parts (walled_parts t)
  pub few : number + length (nodes_of t) < 2 ^ 32
  pub lines : line + sum_by node_size (nodes_of t) < 2 ^ 32

-- the nodes begin with such a tree
pub record BeginsTree (parts : List Part) (nodes : List Node) (number line : ℕ) : Type 0 where
  pub tree : WalledPlan
  pub more : List Node
  pub is : nodes ≡ nodes_of tree ++ more
  pub fit : IsFitTree parts tree number line

-- the reason is that of the first of the splits that breaks a rule
pub record BreaksFirst (parts : List Part) (splits : List SplitEntry) (reason : Reason) : Type 0 where
  pub before : List SplitEntry
  pub split : SplitEntry
  pub behind : List SplitEntry
  pub is : splits ≡ before ++ split ∷ behind
  pub hold : All (EntryHolds parts) before
  pub reason_is : IsSplitReason parts split reason

-- all splits keep their rules, or this is the first reason
abbrev pub TellsReason : List Part → List SplitEntry → Option Reason → Type 0
TellsReason parts splits answer = MatchOption answer (All (EntryHolds parts) splits) (BreaksFirst parts splits)

-- of the tree t in front of other nodes, whose first node has these numbers: the parts at its leaves, the numbers of
-- the node behind it, and what is said of its splits
pub record IsJudgedTree (parts : List Part) (t : WalledPlan) (number line : ℕ) (leaves : PartSet)
    (next next_line : ℕ) (reason : Option Reason) : Type 0 where
  pub leaves_are : leaves ≡ walled_parts t
  pub next_is : next ≡ number + length (nodes_of t)
  pub line_is : next_line ≡ line + sum_by node_size (nodes_of t)
  pub told : TellsReason parts (splits_of t number line) reason
