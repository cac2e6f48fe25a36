-- The splits of a short certificate, and the groups.
use Rattle.std.specs.Prelude.{◌≡◌, ◌≢◌, ℕ, ◌<◌, List, Some, length, slice_get}
use Rattle.staat_vec.specs.declared.vector.V3.{V3}
use Rattle.staat_vec.specs.Lists.{IsLeast}
use Rattle.staat_vec.specs.Vectors.{origin}
use Rattle.staat_model.specs.declared.assembly.Part.{Part}
use Rattle.staat_model.specs.declared.certificate.Arc.{Arc}
use Rattle.staat_model.specs.Certificates.{arc_cmp}
use Rattle.staat_model.specs.Removal.{MeetsAlong}
use Rattle.staat_holds.specs.declared.hold.BrokenHold.{BrokenHold}
use Rattle.staat_holds.specs.Chains.{AllKeep, IsFirstBroken}
use Rattle.staat_short.specs.declared.short.ShortNode.{ShortNode}
use Rattle.staat_short.specs.declared.short.ShortNode.TheVariants.{Leaf, Split, Group}
use Rattle.staat_short.specs.ShortTexts.{GroupedPlan, taken_apart}
use Rattle.staat_confirm.specs.declared.verdict.ShortReason.{ShortReason}
use Rattle.staat_confirm.specs.declared.verdict.ShortReason.TheVariants.{ZeroDirection, Meet}
use Rattle.staat_confirm.specs.Members.{IsMemberWithin, StandsAt}

-- ---- groups

-- the holds of a group keep the rules
abbrev pub KeepsHolds : List Part → ShortNode → Type 0
KeepsHolds parts (Leaf p) = Unit {0}
KeepsHolds parts (Split d) = Unit {0}
KeepsHolds parts (Group holds) = AllKeep parts holds

-- this is the first hold of the group that breaks a rule, and the first rule that it breaks
abbrev pub BreaksHolds : List Part → ShortNode → BrokenHold → Type 0
BreaksHolds parts (Leaf p) broken = ⊥
BreaksHolds parts (Split d) broken = ⊥
BreaksHolds parts (Group holds) broken = IsFirstBroken parts holds broken

-- node k is the first group of which a hold breaks a rule, and that is the hold
pub record IsBrokenGroup (parts : List Part) (nodes : List ShortNode) (k : ℕ) (broken : BrokenHold) : Type 0 where
  pub node : ShortNode
  pub at : slice_get nodes k ≡ Some node
  pub breaks : BreaksHolds parts node broken
  pub before : (m : ℕ) (other : ShortNode) → m < k → slice_get nodes m ≡ Some other → KeepsHolds parts other

-- ---- splits

-- a piece of a part of the plan that moves meets along d one of a part of the plan that rests
pub record MeetsAcross (parts : List Part) (moved rest : GroupedPlan) (d : V3) (arc : Arc) : Type 0 where
  pub from : IsMemberWithin parts moved arc.a
  pub to : IsMemberWithin parts rest arc.b
  pub meets : MeetsAlong parts d arc

-- d is not zero, and no pieces meet across
pub record IsClearSplit (parts : List Part) (d : V3) (moved rest : GroupedPlan) : Type 0 where
  pub moves : d ≢ origin
  pub clear : (arc : Arc) → MeetsAcross parts moved rest d arc → ⊥

-- the split at node k, if one stands there, is clear
abbrev pub IsClearAt : List Part → List ShortNode → ℕ → Type 0
IsClearAt parts nodes k =
    (d : V3) (moved rest : GroupedPlan) → StandsAt nodes k (taken_apart d moved rest)
    → IsClearSplit parts d moved rest

-- the splits before node k are clear
abbrev pub AreClearBefore : List Part → List ShortNode → ℕ → Type 0
AreClearBefore parts nodes k = (m : ℕ) → m < k → IsClearAt parts nodes m

-- all splits are clear
abbrev pub AreClearSplits : List Part → List ShortNode → Type 0
AreClearSplits parts nodes = AreClearBefore parts nodes (length nodes)

-- the split at node k is not clear: its direction is zero, or else these are the first two pieces that meet across
pub data IsUnclearAt (parts : List Part) (nodes : List ShortNode) (k : ℕ) (reason : ShortReason) : Type 0 where
  zero_way : (moved rest : GroupedPlan) → StandsAt nodes k (taken_apart origin moved rest)
      → reason ≡ ZeroDirection k → IsUnclearAt parts nodes k reason
  pieces_meet : (d : V3) → (moved rest : GroupedPlan) → (arc : Arc) → StandsAt nodes k (taken_apart d moved rest)
      → d ≢ origin → IsLeast arc_cmp (MeetsAcross parts moved rest d) arc
      → reason ≡ Meet arc.a arc.i arc.b arc.j k → IsUnclearAt parts nodes k reason

-- the first split that is not clear
pub record IsUnclearSplit (parts : List Part) (nodes : List ShortNode) (reason : ShortReason) : Type 0 where
  pub node : ℕ
  pub before : AreClearBefore parts nodes node
  pub unclear : IsUnclearAt parts nodes node reason
