-- When a short certificate is valid for a product, the first rule that it breaks where it is not, and what it shows.
use Rattle.std.specs.Prelude.{◌≡◌, ◌≢◌, ◌↔◌, ℕ, List, length, All}
use Rattle.std.specs.FinSet as set
use Rattle.staat_model.specs.declared.assembly.Part.{Part}
use Rattle.staat_model.specs.declared.set.PartSet.{PartSet}
use Rattle.staat_model.specs.Plans.{IsGood, IsStuck, Plan}
use Rattle.staat_model.specs.Removal.{IsFree}
use Rattle.staat_model.specs.Sets.{AreApart, Has, below, single}
use Rattle.staat_holds.specs.declared.hold.BrokenHold.{BrokenHold}
use Rattle.staat_holds.specs.declared.hold.Hold.{Hold}
use Rattle.staat_holds.specs.Chains.{AllKeep, IsFirstBroken, IsJoinedLast}
use Rattle.staat_short.specs.declared.short.ShortNode.{ShortNode}
use Rattle.staat_short.specs.declared.short.ShortAnswer.{ShortAnswer}
use Rattle.staat_short.specs.declared.short.ShortAnswer.TheVariants as answer
use Rattle.staat_short.specs.declared.short.ShortCertificate.{ShortCertificate}
use Rattle.staat_short.specs.PlanNodes.{without_groups}
use Rattle.staat_short.specs.ShortTexts.{AreHoldsInOrder, GroupedPlan, IsUngrouped, grouped, part_alone}
use Rattle.staat_short.specs.ShortTexts.{short_nodes_of, taken_apart}
use Rattle.staat_confirm.specs.declared.verdict.ShortReason.{ShortReason}
use Rattle.staat_confirm.specs.declared.verdict.ShortReason.TheVariants.{WrongParts, HoldBreaks, GroupBreaks, BadLeaves}
use Rattle.staat_confirm.specs.declared.verdict.ShortVerdict.{ShortVerdict}
use Rattle.staat_confirm.specs.declared.verdict.ShortVerdict.TheVariants.{ValidPlan, ValidRefusal, Not}
use Rattle.staat_confirm.specs.Members.{AreMembersOnce, IsMemberFault}
use Rattle.staat_confirm.specs.Owners.{AreFitNodes}
use Rattle.staat_confirm.specs.Splits.{AreClearSplits, IsBrokenGroup, IsUnclearSplit, KeepsHolds}

-- ---- rules

-- the rules of nodes: the holds of the groups, then the members, then the splits
pub record KeepNodeRules (parts : List Part) (nodes : List ShortNode) : Type 0 where
  pub holds : All (KeepsHolds parts) nodes
  pub members : AreMembersOnce parts nodes
  pub splits : AreClearSplits parts nodes

-- the first of them that is broken
pub data IsNodesReason (parts : List Part) (nodes : List ShortNode) (reason : ShortReason) : Type 0 where
  group_breaks : (k : ℕ) → (broken : BrokenHold) → IsBrokenGroup parts nodes k broken
      → reason ≡ GroupBreaks k broken → IsNodesReason parts nodes reason
  bad_members : (k : ℕ) → All (KeepsHolds parts) nodes → IsMemberFault parts nodes k → reason ≡ BadLeaves k
      → IsNodesReason parts nodes reason
  unclear_split : All (KeepsHolds parts) nodes → AreMembersOnce parts nodes → IsUnclearSplit parts nodes reason
      → IsNodesReason parts nodes reason

-- the nodes are those of a plan if none is a group, and else of a refusal
abbrev pub IsNodesVerdict : List Part → List ShortNode → ShortVerdict → Type 0
IsNodesVerdict parts nodes ValidPlan = KeepNodeRules parts nodes × All IsUngrouped nodes
IsNodesVerdict parts nodes ValidRefusal = KeepNodeRules parts nodes × (All IsUngrouped nodes → ⊥)
IsNodesVerdict parts nodes (Not reason) = IsNodesReason parts nodes reason

abbrev pub IsHoldsVerdict : List Part → List Hold → ShortVerdict → Type 0
IsHoldsVerdict parts holds ValidPlan = ⊥
IsHoldsVerdict parts holds ValidRefusal = AllKeep parts holds
IsHoldsVerdict parts holds (Not reason) =
    (broken : BrokenHold) × IsFirstBroken parts holds broken × (reason ≡ HoldBreaks broken)

abbrev pub IsAnswerVerdict : List Part → ShortAnswer → ShortVerdict → Type 0
IsAnswerVerdict parts (answer.Plan nodes) v = IsNodesVerdict parts nodes v
IsAnswerVerdict parts (answer.Stuck holds) v = IsHoldsVerdict parts holds v
IsAnswerVerdict parts (answer.Rest nodes) v = IsNodesVerdict parts nodes v

-- what is said of the certificate for the product: first of the number of parts that it states
pub data IsShortVerdict (parts : List Part) (c : ShortCertificate) (v : ShortVerdict) : Type 0 where
  wrong_count : c.parts ≢ length parts → v ≡ Not (WrongParts c.parts) → IsShortVerdict parts c v
  right_count : c.parts ≡ length parts → IsAnswerVerdict parts c.answer v → IsShortVerdict parts c v

-- the nodes or the holds of the answer are within their bounds and in order
abbrev pub IsFitAnswer : ShortAnswer → Type 0
IsFitAnswer (answer.Plan nodes) = AreFitNodes nodes
IsFitAnswer (answer.Stuck holds) = AreHoldsInOrder holds
IsFitAnswer (answer.Rest nodes) = AreFitNodes nodes

-- ---- what valid certificates show

-- no plan takes all parts apart
abbrev pub HasNoPlan : List Part → Type 0
HasNoPlan parts = (plan : Plan) → IsGood parts (below (length parts)) plan → ⊥

-- the set has the parts that the last of the holds joins, and is stuck
pub record IsStuckGroup (parts : List Part) (w : PartSet) (holds : List Hold) : Type 0 where
  pub members : (p : ℕ) → Has w p ↔ IsJoinedLast parts holds p
  pub stuck : IsStuck parts w

-- the plan takes the set w apart down to its groups, each of which is stuck
abbrev pub IsGoodDownTo : List Part → PartSet → GroupedPlan → Type 0
IsGoodDownTo parts w (part_alone p) = w ≡ single p
IsGoodDownTo parts w (grouped holds) = IsStuckGroup parts w holds
IsGoodDownTo parts w (taken_apart d moved rest) =
    (s : PartSet) × ((r : PartSet) × ((w ≡ set.union s r) × AreApart s r × IsFree parts s r d
    × IsGoodDownTo parts s moved × IsGoodDownTo parts r rest))

-- the nodes are those of a plan that takes all parts apart
abbrev pub IsPlanByNodes : List Part → List ShortNode → Type 0
IsPlanByNodes parts nodes =
    (plan : Plan) × (nodes ≡ short_nodes_of (without_groups plan)) × IsGood parts (below (length parts)) plan

-- the nodes are those of a plan that takes all parts apart down to its groups, and no plan takes apart all
abbrev pub IsRefusalByNodes : List Part → List ShortNode → Type 0
IsRefusalByNodes parts nodes =
    (plan : GroupedPlan) × (nodes ≡ short_nodes_of plan) × IsGoodDownTo parts (below (length parts)) plan
    × HasNoPlan parts

abbrev pub ShowsPlan : List Part → ShortAnswer → Type 0
ShowsPlan parts (answer.Plan nodes) = IsPlanByNodes parts nodes
ShowsPlan parts (answer.Stuck holds) = ⊥
ShowsPlan parts (answer.Rest nodes) = IsPlanByNodes parts nodes

-- some set of parts is stuck, and no plan takes all parts apart
abbrev pub ShowsRefusal : List Part → ShortAnswer → Type 0
ShowsRefusal parts (answer.Plan nodes) = IsRefusalByNodes parts nodes
ShowsRefusal parts (answer.Stuck holds) = ((w : PartSet) × IsStuckGroup parts w holds) × HasNoPlan parts
ShowsRefusal parts (answer.Rest nodes) = IsRefusalByNodes parts nodes
