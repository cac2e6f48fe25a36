-- The list of the splits of a plan.
use Rattle.std.proofs.Common.{ℕ, List, ◌∷◌, ◌++◌, length, All, arith, inl, inr, refl}
use Rattle.std.proofs.lemmas.List.Elements.{All-append, All-cons, All-contains, All-head, All-nil, All-tail}
use Rattle.staat_vec.specs.Lists.{FailsFirst}
use Rattle.staat_model.specs.declared.assembly.Part.{Part}
use Rattle.staat_model.specs.declared.certificate.Node.TheVariants.{Split}
use Rattle.staat_model.specs.Certificates.{WalledPlan, walled_leaf, walled_split, nodes_of, SplitsHold}
use Rattle.staat_model.specs.Reasons.{EntryHolds, SplitEntry, splits_of}
use Rattle.staat_model.specs.Texts.{IsNodeInOrder}
use Rattle.staat_model.proofs.Members.{all_back, all_front}
use Rattle.staat_model.proofs.Places.{get_behind, place_cases}
use Rattle.staat_vec.proofs.Unique.{from_place}

-- all before x keep the rule, and x breaks it
abbrev pub fails_behind : {X : Type 0} (P : X → Type 0) (before more : List X) (x : X) → All P before → (P x → ⊥)
    → FailsFirst P (before ++ x ∷ more) (length before)
fails_behind P before more x all fails = record {
  x = x;
  at = get_behind before (x ∷ more) 0 (length before) x (omega arith) refl;
  fails = fails;
  before = λ m y lt e. elim (place_cases before (x ∷ more) m y e) [
    | inl here' ↦ All-contains P before y all (from_place before m y here')
    | inr (i, later, at) ↦ absurd (omega (arith, later, lt))
  ];
}

-- where the splits of a plan hold, each that is listed does
pub entries_hold : (parts : List Part) (t : WalledPlan) (node line : ℕ) → SplitsHold parts t
    → All (EntryHolds parts) (splits_of t node line)
entries_hold parts (walled_leaf p) node line h = All-nil (EntryHolds parts)
entries_hold parts (walled_split d seps moved rest) node line h =
    All-cons (EntryHolds parts) _ _ h.0
    (All-append (EntryHolds parts) _ _ (entries_hold parts moved _ _ h.1) (entries_hold parts rest _ _ h.2))

-- and the other way round
pub splits_hold : (parts : List Part) (t : WalledPlan) (node line : ℕ) → All (EntryHolds parts) (splits_of t node line)
    → SplitsHold parts t
splits_hold parts (walled_leaf p) node line all = tt
splits_hold parts (walled_split d seps moved rest) node line all =
    let behind = All-tail (EntryHolds parts) _ _ all in (
      All-head (EntryHolds parts) _ _ all,
      splits_hold parts moved _ _ (all_front (EntryHolds parts) _ _ behind),
      splits_hold parts rest _ _ (all_back (EntryHolds parts) _ _ behind),
    )

-- the walls of the split ascend
abbrev pub IsEntryInOrder : SplitEntry → Type 0
IsEntryInOrder x = IsNodeInOrder (Split x.d x.seps)

pub entries_in_order : (t : WalledPlan) (node line : ℕ) → All IsNodeInOrder (nodes_of t)
    → All IsEntryInOrder (splits_of t node line)
entries_in_order (walled_leaf p) node line all = All-nil IsEntryInOrder
entries_in_order (walled_split d seps moved rest) node line all =
    let behind = All-tail IsNodeInOrder (Split d seps) (nodes_of moved ++ nodes_of rest) all in
    All-cons IsEntryInOrder _ _ (All-head IsNodeInOrder (Split d seps) (nodes_of moved ++ nodes_of rest) all)
    (All-append IsEntryInOrder _ _
    (entries_in_order moved _ _ (all_front IsNodeInOrder (nodes_of moved) (nodes_of rest) behind))
    (entries_in_order rest _ _ (all_back IsNodeInOrder (nodes_of moved) (nodes_of rest) behind)))
