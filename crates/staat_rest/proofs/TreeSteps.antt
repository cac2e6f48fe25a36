-- Steps of turning holds and trees back.
use Rattle.std.proofs.Common.{◌≡◌, ℕ, ◌<◌, List, [], length, get_or, map, sym, subst, Contains}
use Rattle.std.specs.Prelude.{slice_get}
use Rattle.std.proofs.lemmas.Option.{slice_get-get_or}
use Rattle.staat_model.specs.declared.assembly.Part.{Part}
use Rattle.staat_model.specs.declared.certificate.Arc.{Arc}
use Rattle.staat_model.specs.declared.tree.Tree.{Tree, Leaf}
use Rattle.staat_model.specs.Plans.{plan_of}
use Rattle.staat_holds.specs.declared.hold.Hold.{Hold}
use Rattle.staat_holds.specs.Chains.{AllKeep, KeepsHoldRules}
use Rattle.staat_rest.specs.declared.merging.Origin.{Origin}
use Rattle.staat_rest.specs.Turning.{HasLeavesBelow, HaveLists, original_hold, original_nodes, original_pair}
use Rattle.staat_vec.proofs.Unique.{from_place}

pub hold_as : (ps : List Part) (ns : List ℕ) (heads : List ℕ) (origins : List (List Origin)) (hold : Hold) (nodes : List ℕ) (pairs : List Arc)
    → nodes ≡ original_nodes heads hold.nodes → pairs ≡ map (original_pair origins) hold.pairs
    → KeepsHoldRules ps ns (original_hold heads origins hold) → KeepsHoldRules ps ns (record { nodes = nodes; pairs = pairs })
hold_as ps ns heads origins hold nodes pairs e f k = subst (KeepsHoldRules ps ns) (λ i. record { nodes = sym e i; pairs = sym f i }) k

-- a leaf is one of the heads
pub leaf_within : (tree : Tree) (k count : ℕ) → tree ≡ Leaf k → HasLeavesBelow count (plan_of tree) → k < count
leaf_within tree k count is all = subst (λ (t : Tree). HasLeavesBelow count (plan_of t)) is all

-- the list of its node
pub leaf_list : (parts : List Part) (heads : List ℕ) (lists : List (List Hold)) (tree : Tree) (k : ℕ) → tree ≡ Leaf k → HaveLists parts heads lists
    → HasLeavesBelow (length heads) (plan_of tree) → (get_or heads k 0 < length lists) × AllKeep parts (get_or lists (get_or heads k 0) [])
leaf_list parts heads lists tree k is have all =
    have (get_or heads k 0) (from_place heads k (get_or heads k 0) (slice_get-get_or heads k 0 (leaf_within tree k (length heads) is all)))
